-- The functions of `DecideNonces` decide what `Inline` says of elements.
use Rattle.std.proofs.Common.{◌≡◌, ◌≢◌, ℕ, Bool, true, false, not, ◌&&◌, ◌||◌, ◌==◌, List, [], ◌∷◌, ◌++◌, Option, Some, None, refl, ap, inl, inr, ◌⊎◌, is_some, cond}
use Rattle.std.specs.Prelude.{codes, unwrap_or}
use Rattle.std.specs.Bool.{Decides}
use Rattle.std.specs.List.{list_any}
use Rattle.std.specs.Str.{bytes_eq}
use Rattle.std.proofs.lemmas.Bool.Decides.{Decides-and, Decides-or, Decides-not, Decides-like, Decides-eqb, not_from_Decides}
use Rattle.std.proofs.lemmas.Slice.Eq.{bytes_eq-Decides}
use Rattle.csp_model.specs.Ascii.{lower}
use Rattle.csp_model.specs.Inline.{Mentions, IsSuspect, nonce_attribute, IsNonceable, IsElementNonce}
use Rattle.csp_model.specs.DecideNonces.{begins, has_word, mentions, is_suspect, is_nonceable, element_nonce}
use Rattle.csp_model.proofs.Deciding.{no, yes, is_false, both3, any_decides, implies_decides}

-- Words in texts

abbrev Begins : List ℕ → List ℕ → Type 0
Begins word text = (back : List ℕ) × (text ≡ word ++ back)

begins_decides : (word text : List ℕ) → Decides (begins word text) (Begins word text)
begins_decides [] text = yes (text, refl)
begins_decides (w ∷ word) [] = no (λ ((back, e) : Begins (w ∷ word) []). cc)
begins_decides (w ∷ word) (c ∷ text) =
    Decides-like ((c == w) && begins word text)
    (λ ((e, (back, f)) : (c ≡ w) × Begins word text). let g : c ∷ text ≡ w ∷ (word ++ back) = cc in (back, g))
    (λ ((back, g) : Begins (w ∷ word) (c ∷ text)). let e : c ≡ w = cc in let f : text ≡ word ++ back = cc in (e, (back, f)))
    (Decides-and (c == w) (begins word text) (Decides-eqb c w) (begins_decides word text))

abbrev HasWord : List ℕ → List ℕ → Type 0
HasWord word text = (front back : List ℕ) × (text ≡ front ++ (word ++ back))

at_end : (word front back : List ℕ) → [] ≡ front ++ (word ++ back) → Begins word []
at_end word [] back e = (back, e)
at_end word (x ∷ front) back e = absurd (let none : ⊥ = cc in none)

first_or_rest : (word : List ℕ) (c : ℕ) (text front back : List ℕ) → c ∷ text ≡ front ++ (word ++ back)
    → Begins word (c ∷ text) ⊎ HasWord word text
first_or_rest word c text [] back e = inl (back, e)
first_or_rest word c text (x ∷ front) back e = let f : text ≡ front ++ (word ++ back) = cc in inr (front, back, f)

has_word_decides : (word text : List ℕ) → Decides (has_word word text) (HasWord word text)
has_word_decides word [] =
    Decides-like (begins word []) (λ ((back, e) : Begins word []). ([], back, e)) (λ (h : HasWord word []). at_end word h.0 h.1 h.2) (begins_decides word [])
has_word_decides word (c ∷ text) =
    Decides-like (has_word word (c ∷ text))
    (λ (h : Begins word (c ∷ text) ⊎ HasWord word text). elim h [
      | inl here ↦ ([], here.0, here.1)
      | inr later ↦ (c ∷ later.0, later.1, ap (λ (t : List ℕ). c ∷ t) later.2)
    ])
    (λ (h : HasWord word (c ∷ text)). first_or_rest word c text h.0 h.1 h.2)
    (Decides-or (begins word (c ∷ text)) (has_word word text) (begins_decides word (c ∷ text)) (has_word_decides word text))

-- Elements

mentions_decides : (word text : List ℕ) → Decides (mentions word text) (Mentions word text)
mentions_decides word text = has_word_decides word (lower text)

is_suspect_decides : (attribute : List ℕ × List ℕ) → Decides (is_suspect attribute) (IsSuspect attribute)
is_suspect_decides attribute =
    let either = λ (text : List ℕ). Decides-or (mentions (codes "<script") text) (mentions (codes "<style") text)
    (mentions_decides (codes "<script") text) (mentions_decides (codes "<style") text) in
    Decides-or (mentions (codes "<script") attribute.0 || mentions (codes "<style") attribute.0)
    (mentions (codes "<script") attribute.1 || mentions (codes "<style") attribute.1) (either attribute.0) (either attribute.1)

some_decides : {X : Type 0} (o : Option X) → Decides (is_some o) (o ≢ None)
some_decides None = no (λ some. some refl)
some_decides (Some x) = yes (λ (h : Some x ≡ None). cc)

pub nonceable_decides : (tag : List ℕ) (attributes : List (List ℕ × List ℕ)) (duplicate : Bool)
    → Decides (is_nonceable tag attributes duplicate) (IsNonceable tag attributes duplicate)
nonceable_decides tag attributes duplicate =
    both3 (is_some (nonce_attribute attributes)) (not duplicate) (not (bytes_eq tag (codes "script")) || not (list_any is_suspect attributes))
    (some_decides (nonce_attribute attributes)) (is_false duplicate)
    (implies_decides (bytes_eq tag (codes "script")) (not (list_any is_suspect attributes)) (bytes_eq-Decides tag (codes "script"))
    (Decides-not (list_any is_suspect attributes) (any_decides is_suspect IsSuspect is_suspect_decides attributes)))

its_value : (o : Option (List ℕ)) → o ≢ None → o ≡ Some (unwrap_or o [])
its_value None some = absurd (some refl)
its_value (Some value) some = refl

-- each element has this nonce
pub has_nonce : (tag : List ℕ) (attributes : List (List ℕ × List ℕ)) (duplicate : Bool)
    → IsElementNonce tag attributes duplicate (element_nonce tag attributes duplicate)
has_nonce tag attributes duplicate =
    let decided = nonceable_decides tag attributes duplicate in
    elim (is_nonceable tag attributes duplicate) as (λ b. is_nonceable tag attributes duplicate ≡ b
    → IsElementNonce tag attributes duplicate (cond b (unwrap_or (nonce_attribute attributes) []) [])) [
      | true ↦ λ e. inl (decided.0 e, its_value (nonce_attribute attributes) (decided.0 e).0)
      | false ↦ λ e. inr (not_from_Decides (is_nonceable tag attributes duplicate) decided e, refl)
    ] refl
