-- A decided value is the value on each check of which the literals are true.
use Rattle.std.proofs.Common.{◌≡◌, Bool, true, false, not, ◌&&◌, ◌||◌, Option, Some, None, List, [], ◌∷◌, IfSome, IsTrue, refl, ap}
use Rattle.std.proofs.lemmas.List.Elements.{All-head, All-tail}
use Rattle.csp_facts.specs.Follows.{follows, decided, or_else}
use Rattle.csp_facts.specs.Holding.{holds, is_true_of}
use Rattle.csp_facts.specs.declared.atom.Atom.{Atom}
use Rattle.csp_facts.specs.declared.atom.Literal.{Literal}
use Rattle.csp_facts.proofs.Sound.{sound}
use Rattle.csp_model.specs.declared.check.Check.{Check}
use Rattle.csp_model.specs.declared.source.Hash.{Hash}
use Rattle.csp_formula.specs.Sentences.{Sentence, Known, Fact, Not, Both, Either}
use Rattle.csp_formula.specs.Surely.{maybe_not, maybe_and, maybe_or, surely}
use Rattle.csp_formula.specs.Values.{is_true_for, AreTrueOf}

abbrev Agrees : Option Bool → Bool → Type 0
Agrees answer b = IfSome answer (λ known. b ≡ known)

and_false : (b : Bool) → (b && false) ≡ false
and_false true = refl
and_false false = refl

or_true : (b : Bool) → (b || true) ≡ true
or_true true = refl
or_true false = refl

for_not : (x : Option Bool) (b : Bool) → Agrees x b → Agrees (maybe_not x) (not b)
for_not None b h = tt
for_not (Some x) b h = ap not h

for_and : (x y : Option Bool) (b c : Bool) → Agrees x b → Agrees y c → Agrees (maybe_and x y) (b && c)
for_and (Some false) y b c h k = rw h refl
for_and (Some true) y b c h k = rw h k
for_and None (Some false) b c h k = rw k (and_false b)
for_and None (Some true) b c h k = tt
for_and None None b c h k = tt

for_or : (x y : Option Bool) (b c : Bool) → Agrees x b → Agrees y c → Agrees (maybe_or x y) (b || c)
for_or (Some true) y b c h k = rw h refl
for_or (Some false) y b c h k = rw h k
for_or None (Some true) b c h k = rw k (or_true b)
for_or None (Some false) b c h k = tt
for_or None None b c h k = tt

first : (x y : Option Bool) (b : Bool) → Agrees x b → Agrees y b → Agrees (or_else x y) b
first None y b h k = k
first (Some x) y b h k = h

module _ (hashes : List Hash) (asked : Check) where
  decided_sound : (ls : List Literal) (a : Atom) → AreTrueOf hashes asked ls → Agrees (decided ls a) (holds hashes asked a)
  decided_sound [] a are = tt
  decided_sound (l ∷ ls) a are =
      first (follows l a) (decided ls a) (holds hashes asked a)
      (sound hashes asked l a (All-head (λ m. IsTrue (is_true_of hashes asked m)) l ls are))
      (decided_sound ls a (All-tail (λ m. IsTrue (is_true_of hashes asked m)) l ls are))

  pub surely_sound : (ls : List Literal) (s : Sentence) → AreTrueOf hashes asked ls
      → IfSome (surely ls s) (λ known. is_true_for hashes asked s ≡ known)
  surely_sound ls (Known b) are = refl
  surely_sound ls (Fact a) are = decided_sound ls a are
  surely_sound ls (Not x) are = for_not (surely ls x) (is_true_for hashes asked x) (surely_sound ls x are)
  surely_sound ls (Both x y) are =
      for_and (surely ls x) (surely ls y) (is_true_for hashes asked x) (is_true_for hashes asked y)
      (surely_sound ls x are) (surely_sound ls y are)
  surely_sound ls (Either x y) are =
      for_or (surely ls x) (surely ls y) (is_true_for hashes asked x) (is_true_for hashes asked y)
      (surely_sound ls x are) (surely_sound ls y are)
