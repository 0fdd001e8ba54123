-- What the table's tests of suffixes and of paths decide.
use Rattle.std.proofs.Common.{◌≡◌, ℕ, List, ◌∷◌, ◌++◌}
use Rattle.std.specs.Bool.{Decides}
use Rattle.csp_model.specs.Ascii.{code}
use Rattle.csp_model.proofs.EndLaws.{subdomain_Decides}
use Rattle.csp_model.proofs.MatchingDecided.{pieces_decide}
use Rattle.csp_facts.specs.Follows.{lies_within, same_path}

-- the domain is the suffix or lies under it
abbrev pub IsWithin : List ℕ → List ℕ → Type 0
IsWithin domain suffix = (front : List ℕ) × (code "." ∷ domain ≡ front ++ code "." ∷ suffix)

pub lies_within_decides : (domain suffix : List ℕ) → Decides (lies_within domain suffix) (IsWithin domain suffix)
lies_within_decides domain suffix = subdomain_Decides (code "." ∷ domain) suffix

pub same_path_decides : (p q : List (List ℕ)) → Decides (same_path p q) (p ≡ q)
same_path_decides = pieces_decide
