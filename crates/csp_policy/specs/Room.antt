-- Words of private contracts, which stand here since contracts cite only specs/: what is read of directives
-- and policies, where only so many value tokens are kept.
use Rattle.std.specs.Prelude.{◌≡◌, ℕ, ◌+◌, ◌-◌, ◌≤◌, Bool, if◌then◌else◌, List, [], ◌∷◌, length, map, take, filter, min}
use Rattle.std.specs.List.{sum_by}
use Rattle.csp_model.specs.Ascii.{lower}
use Rattle.csp_model.specs.Reading.{source_of}
use Rattle.csp_model.specs.Policies.{is_for_meta, token_count, policy_limit, token_limit}
use Rattle.csp_policy.specs.Types.{Directive, Policy}

-- the directive of this name, in whatever case, and these tokens
abbrev pub directive_with : List ℕ → List (List ℕ) → Directive
directive_with name tokens = record { name = lower name; tokens = tokens; sources = map source_of tokens }

-- the directive, with so many of its tokens
abbrev pub shortened : ℕ → Directive → Directive
shortened room d =
    record { name = d.name; tokens = take room d.tokens; sources = map source_of (take room d.tokens) }

-- a meta element loses some of its directives
abbrev pub kept_of : Bool → List Directive → List Directive
kept_of meta ds = if meta then filter is_for_meta ds else ds

-- the directive, where it is the first of its name
abbrev pub if_first : Bool → Directive → List Directive
if_first is_first d = if is_first then d ∷ [] else []

-- the value tokens of these directives
abbrev pub tokens_in : List Directive → ℕ
tokens_in ds = sum_by (λ (d : Directive). length d.tokens) ds

-- these directives were made from the directives ds with room for so many tokens, and this much room is left
pub record AreShortened (ds made : List Directive) (room now : ℕ) : Type 0 where
  pub number : length made ≡ length ds
  pub left : now ≡ room - tokens_in ds
  pub kept : tokens_in made + now ≡ room
  pub whole : tokens_in ds ≤ room → made ≡ ds

-- these policies were made from the policies ps up to the first that is too many, with room for the tokens
-- up to the first that is too many
pub record AreRead (ps made : List Policy) (now : ℕ) : Type 0 where
  pub number : length made ≡ min (length ps) (policy_limit + 1)
  pub left : length ps ≤ policy_limit → now ≡ token_limit + 1 - token_count ps
  pub kept : token_count made + now ≡ token_limit + 1
  pub whole : length ps ≤ policy_limit → token_count ps ≤ token_limit + 1 → made ≡ ps
