-- Words of a private type's contracts, which stand here since they cite only specs/.
use Rattle.std.specs.Prelude.{ℕ, List, [], Option, Some, None, option_copied}
use Rattle.csp_model.specs.Ascii.{split_at}
use Rattle.csp_policy.specs.Types.{Pieces}

-- the pieces of the text that is left behind a separator, where there is one
abbrev pub pieces_behind : ℕ → Option (List ℕ) → List (List ℕ)
pieces_behind separator None = []
pieces_behind separator (Some text) = split_at separator text

-- the pieces that are still to come
unfoldable pub pieces_left : Pieces → List (List ℕ)
pieces_left pieces = pieces_behind pieces.separator (option_copied pieces.rest)
