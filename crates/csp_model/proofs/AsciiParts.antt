-- The parts of an ASCII text are ASCII.
use Rattle.std.proofs.Common.{arith, ◌≡◌, refl, ℕ, zero, suc, true, List, [], ◌∷◌, ◌++◌, take, drop}
use Rattle.std.proofs.lemmas.Grind.{common_steps}
use Rattle.csp_model.specs.Ascii.{is_ascii_text}

pub take_ascii : (n : ℕ) (text : List ℕ) → is_ascii_text text ≡ true → is_ascii_text (take n text) ≡ true
take_ascii zero text h = refl
take_ascii (suc n) [] h = refl
take_ascii (suc n) (c ∷ text) h = grind (arith, common_steps, take_ascii n text)

pub drop_ascii : (n : ℕ) (text : List ℕ) → is_ascii_text text ≡ true → is_ascii_text (drop n text) ≡ true
drop_ascii zero text h = h
drop_ascii (suc n) [] h = refl
drop_ascii (suc n) (c ∷ text) h = grind (arith, common_steps, drop_ascii n text)

-- the last of the parts
pub end_ascii : (a b : List ℕ) → is_ascii_text (a ++ b) ≡ true → is_ascii_text b ≡ true
end_ascii [] b h = h
end_ascii (c ∷ a) b h = end_ascii a b (grind (arith, h))
