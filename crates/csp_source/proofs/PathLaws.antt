-- The segments of a path.
use Rattle.std.proofs.Common.{◌≡◌, ◌∙◌, sym, ap, refl, ℕ, Bool, true, false, ◌&&◌, List, [], ◌∷◌, ◌++◌, cond, Some, None, map, tests, rules}
use Rattle.std.specs.Prelude.{not, ◌==◌, is_some}
use Rattle.std.specs.List.{list_all, slice_split, onto_first}
use Rattle.std.proofs.lemmas.List.{map-append}
use Rattle.std.proofs.lemmas.Bool.{false≢true, eqb-true}
use Rattle.percent_encoding.specs.Percent.{percent_decode}
use Rattle.csp_model.specs.Ascii.{split_at, is_nonempty, without_last}
use Rattle.csp_model.specs.Grammar.{is_segment, are_segments, pieces_of, path_part_of}
use Rattle.csp_source.specs.Types.{PathPart}
use Rattle.csp_model.proofs.FinalBytes.{without_last-push, ends_in-push}

-- a text has a first part
pick : {X : Type 0} (b : Bool) (c : X) (parts : List (List X)) → (q : List X) × (qs : List (List X)) × (cond b ([] ∷ parts) (onto_first c parts) ≡ q ∷ qs)
pick true c parts = ([], parts, refl)
pick false c [] = (c ∷ [], [], refl)
pick false c (part ∷ parts) = (c ∷ part, parts, refl)

pub first_part : {X : Type 0} (p : X → Bool) (text : List X) → (q : List X) × (qs : List (List X)) × (slice_split p text ≡ q ∷ qs)
first_part p [] = ([], [], refl)
first_part p (c ∷ text) = pick (p c) c (slice_split p text)

onto_first-append : {X : Type 0} (c : X) (parts more : List (List X)) (q : List X) (qs : List (List X)) → parts ≡ q ∷ qs → onto_first c (parts ++ more) ≡ onto_first c parts ++ more
onto_first-append c parts more q qs e = rw e refl

split_push_by : {X : Type 0} (b : Bool) (c : X) (parts more : List (List X)) (q : List X) (qs : List (List X)) → parts ≡ q ∷ qs
    → cond b ([] ∷ (parts ++ more)) (onto_first c (parts ++ more)) ≡ cond b ([] ∷ parts) (onto_first c parts) ++ more
split_push_by true c parts more q qs e = refl
split_push_by false c parts more q qs e = onto_first-append c parts more q qs e

-- a separator at the end makes one more part, an empty one
pub slice_split-push : {X : Type 0} (p : X → Bool) (xs : List X) (y : X) → p y ≡ true → slice_split p (xs ++ y ∷ []) ≡ slice_split p xs ++ [] ∷ []
slice_split-push p [] y h = rw h refl
slice_split-push p (x ∷ xs) y h =
    let (q, qs, e) = first_part p xs in
    ap (λ parts. cond (p x) ([] ∷ parts) (onto_first x parts)) (slice_split-push p xs y h) ∙ split_push_by (p x) x (slice_split p xs) ([] ∷ []) q qs e

pub nonempty : {X : Type 0} (x : X) (xs : List X) → is_nonempty (x ∷ xs) ≡ true
nonempty x xs = search (rules, tests)

and_true : (b : Bool) → b ≡ (b && true)
and_true true = refl
and_true false = refl

after_first : (c : ℕ) (parts : List (List ℕ)) → are_segments (onto_first c parts) ≡ list_all is_segment (onto_first c parts)
after_first c [] = and_true (is_segment (c ∷ []))
after_first c (part ∷ []) = and_true (is_segment (c ∷ part))
after_first c (part ∷ more ∷ parts) = ap (λ b. b && list_all is_segment ((c ∷ part) ∷ more ∷ parts)) (nonempty c part)

pub are_segments-slash : (text : List ℕ) → are_segments (split_at 47 (47 ∷ text)) ≡ false
are_segments-slash text = let (q, qs, e) = first_part (λ b. b == 47) text in ap (λ parts. are_segments ([] ∷ parts)) e

pub are_segments-other : (c : ℕ) (text : List ℕ) → (c == 47) ≡ false → are_segments (split_at 47 (c ∷ text)) ≡ list_all is_segment (split_at 47 (c ∷ text))
are_segments-other c text h = rw h (after_first c (split_at 47 text))

segments_by : (b : Bool) (c : ℕ) (rest : List ℕ) → (c == 47) ≡ b → are_segments (split_at 47 (c ∷ rest)) ≡ (not b && list_all is_segment (split_at 47 (c ∷ rest)))
segments_by true c rest is = rw (eqb-true c 47 is) (are_segments-slash rest)
segments_by false c rest apart = are_segments-other c rest apart

-- the first segment is empty only where it stands alone: the text doesn't begin with "/"
pub are_segments-at : (text rest : List ℕ) (c : ℕ) → text ≡ c ∷ rest → are_segments (split_at 47 text) ≡ (not (c == 47) && list_all is_segment (split_at 47 text))
are_segments-at text rest c e = rw e (segments_by (c == 47) c rest refl)

pub are_segments-at_slash : (text rest : List ℕ) (c : ℕ) → text ≡ c ∷ rest → c ≡ 47 → not (c == 47) ≡ are_segments (split_at 47 text)
are_segments-at_slash text rest c e is = rw (e, is) (sym (are_segments-slash rest))

pieces_of-push : (front : List ℕ) → without_last (pieces_of (front ++ 47 ∷ [])) ≡ pieces_of front
pieces_of-push front =
    ap (λ parts. without_last (map percent_decode parts)) (slice_split-push (λ b. b == 47) front 47 refl)
    ∙ ap without_last (map-append percent_decode (split_at 47 front) ([] ∷ []))
    ∙ without_last-push (pieces_of front) (percent_decode [])

chosen : {A : Type 0} (b : Bool) (x : A) → is_some (cond b (Some x) None) ≡ true → cond b (Some x) None ≡ Some x
chosen true x h = refl
chosen false x h = absurd (false≢true h)

-- the path of a good text that ends in "/"
pub path_part_of-slash : (c : ℕ) (front : List ℕ) → is_some (path_part_of (c ∷ (front ++ 47 ∷ []))) ≡ true → path_part_of (c ∷ (front ++ 47 ∷ [])) ≡ Some (PathPart.Prefix (pieces_of front))
unfolding path_part_of
path_part_of-slash c front h =
    chosen _ _ h ∙ ap Some (rw (ends_in-push 47 47 (c ∷ front)) (ap PathPart.Prefix (pieces_of-push front)))

pub path_part_of-at_slash : (text rest front : List ℕ) (c : ℕ) → text ≡ c ∷ rest → rest ≡ front ++ 47 ∷ [] → is_some (path_part_of text) ≡ true → path_part_of text ≡ Some (PathPart.Prefix (pieces_of front))
path_part_of-at_slash text rest front c e ends h =
    let whole : text ≡ c ∷ (front ++ 47 ∷ []) = e ∙ ap (λ x. c ∷ x) ends in
    ap path_part_of whole ∙ path_part_of-slash c front (sym (ap (λ x. is_some (path_part_of x)) whole) ∙ h)
