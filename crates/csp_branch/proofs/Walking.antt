-- The changes that a walker keeps tell the literals of its path.
use Rattle.std.proofs.Common.{◌≡◌, ◌∙◌, sym, ap, ℕ, ◌<◌, ◌≤◌, ◌+◌, false, List, [], ◌∷◌, ◌++◌, length, map, get_or, take, None, All, arith}
use Rattle.std.proofs.lemmas.List.{get_or_push, get_or-map, get_or-take, length-map, length_push, length-take-le, map-append, same_lists}
use Rattle.std.proofs.lemmas.List.Elements.{All-from_get_or}
use Rattle.csp_facts.specs.declared.atom.Literal.{Literal}
use Rattle.csp_branch.specs.Changes.{AreChanges, first_of}
use Rattle.csp_branch.specs.Paths.{Path, literal_of}
use Rattle.csp_branch.specs.declared.branch.Change.{Change}
use Rattle.csp_branch.proofs.Changing.{last_named}

-- any change stands where a list has none
blank : Change
blank = record { step = record { name = 0; positive = false }; was = record { group = record { place = None; seal = None }; denied = false } }

module _ (changes : List Change) (path : Path) (are : AreChanges changes path) where
  abbrev says : Change → Literal
  says change = literal_of path.atoms change.step

  literal_at : (k : ℕ) (d : Literal) → k < length changes → get_or path.literals k d ≡ says (get_or changes k blank)
  literal_at k d low =
      let last = are.each k blank low in
      let step = (get_or changes k blank).step in
      let front = map (literal_of path.atoms) last.before in
      let is : take (k + 1) path.literals ≡ front ++ literal_of path.atoms step ∷ [] =
      ap (λ (p : Path). p.literals) last.literals ∙ map-append (literal_of path.atoms) last.before (step ∷ []) in
      let inside : k + 1 ≤ length path.literals = let long = are.long in omega (arith, low, long) in
      let long : length front ≡ k =
      let one = ap length is in
      let two = length_push front (literal_of path.atoms step) in
      let three = length-take-le (k + 1) path.literals inside in
      omega (arith, one, two, three) in
      sym (get_or-take (k + 1) path.literals k d (omega arith)) ∙ ap (λ (ls : List Literal). get_or ls k d) is ∙ get_or_push front (literal_of path.atoms step) d k long

  pub changes_say : map says changes ≡ path.literals
  changes_say =
      same_lists (map says changes) path.literals (length-map changes says ∙ are.long)
      (λ k d h.
      let low : k < length changes = let long = length-map changes says in omega (arith, h, long) in
      get_or-map says changes k blank d low ∙ sym (literal_at k d low))

  pub changes_named : All (λ (change : Change). change.step.name < length path.atoms) changes
  changes_named = All-from_get_or (λ (change : Change). change.step.name < length path.atoms) changes blank (λ i h. last_named (get_or changes i blank) (first_of (i + 1) path) (are.each i blank h))
