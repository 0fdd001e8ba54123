-- A word of private contracts, which stands here since contracts cite only specs/.
use Rattle.std.specs.Prelude.{ℕ, Bool, ◌&&◌, nat_eq, List, codes, take_while}
use Rattle.std.specs.List.{starts_with}
use Rattle.csp_model.specs.Ascii.{skip_while}
use Rattle.csp_model.specs.Grammar.{is_scheme_char, is_scheme}

-- the token begins with a scheme and "://"
abbrev pub has_scheme : List ℕ → Bool
has_scheme token =
    is_scheme (take_while is_scheme_char token) && starts_with nat_eq (skip_while is_scheme_char token) (codes "://")
