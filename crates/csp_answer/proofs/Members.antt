-- What is decided of a disjunction is told by what is decided of its members, in whatever order they stand.
use Rattle.std.proofs.Common.{◌≡◌, zero, suc, List, [], ◌∷◌, get_or, Option, Bool, All, Contains, arith, refl}
use Rattle.std.proofs.lemmas.List.Elements.{All-contains, All-head, All-tail}
use Rattle.csp_branch.specs.Paths.{Path}
use Rattle.csp_answer.specs.Deciding.{AddsNothing, said_of, said_of_some}
use Rattle.csp_answer.specs.declared.conjunction.Conjunction.{Conjunction}
use Rattle.csp_answer.proofs.Adding.{adds_both, adds_first, adds_itself, adds_last, adds_neither}

module _ (path : Path) where
  each_adds : (cs : List Conjunction) → All (λ c. AddsNothing (said_of path c) (said_of_some path cs)) cs
  each_adds [] k d h = absurd (omega (arith, h))
  each_adds (c ∷ cs) zero d h = adds_first (said_of path c) (said_of path c) (said_of_some path cs) (adds_itself (said_of path c))
  each_adds (c ∷ cs) (suc k) d h =
      adds_last (said_of path (get_or cs k d)) (said_of path c) (said_of_some path cs) (each_adds cs k d (omega (arith, h)))

  -- a member adds nothing to the disjunction
  pub member_adds : (cs : List Conjunction) (c : Conjunction) → Contains cs c → AddsNothing (said_of path c) (said_of_some path cs)
  member_adds cs c has = All-contains (λ d. AddsNothing (said_of path d) (said_of_some path cs)) cs c (each_adds cs) has

  -- the disjunction adds nothing to what no member adds to
  pub all_add : (cs : List Conjunction) (known : Option Bool) → All (λ c. AddsNothing (said_of path c) known) cs → AddsNothing (said_of_some path cs) known
  all_add [] known all = refl
  all_add (c ∷ cs) known all =
      adds_both (said_of path c) (said_of_some path cs) known (All-head (λ d. AddsNothing (said_of path d) known) c cs all)
      (all_add cs known (All-tail (λ d. AddsNothing (said_of path d) known) c cs all))

  -- a disjunction of members of another adds nothing to that
  pub some_add : (cs ds : List Conjunction) → All (Contains ds) cs → AddsNothing (said_of_some path cs) (said_of_some path ds)
  some_add cs ds all = all_add cs (said_of_some path ds) (λ k d h. member_adds ds (get_or cs k d) (all k d h))

  pub same_members : (cs ds : List Conjunction) → All (Contains ds) cs → All (Contains cs) ds → said_of_some path cs ≡ said_of_some path ds
  same_members cs ds there back = adds_neither (said_of_some path cs) (said_of_some path ds) (some_add cs ds there) (some_add ds cs back)
