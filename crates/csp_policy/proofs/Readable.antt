-- What reading makes is readable: distinct names, sources that are read from the tokens, and the origin given.
use Rattle.std.proofs.Common.{arith, refl, sym, subst, ◌≡◌, ◌≢◌, ◌≤◌, ℕ, Bool, true, false, not, if◌then◌else◌, nat_lt, length, List, [], ◌∷◌, map, codes, Some, None}
use Rattle.std.specs.List.{filter, filter_map, cons_option, flat_map, All, AllPairs}
use Rattle.std.specs.Str.{bytes_eq}
use Rattle.std.proofs.lemmas.Slice.Eq.{bytes_eq-Decides}
use Rattle.std.proofs.lemmas.List.Elements.{All-nil, All-cons, All-filter, All-append, All-head, All-tail}
use Rattle.std.proofs.lemmas.List.Kept.{AllPairs-cons, AllPairs-filter}
use Rattle.csp_model.specs.Ascii.{lower, is_ascii_text, words, split_at}
use Rattle.csp_model.specs.Reading.{source_of}
use Rattle.csp_model.specs.Validity.{IsValidOrigin}
use Rattle.csp_model.specs.Policies.{directive_of_words, directive_of, directives_of, firsts, same_name, policy_with, policies_in, policies_of, policies, is_for_meta, token_count, longest_text, policy_limit, token_limit, text_limit, IsReadable, IsReadablePolicy, block_lines, Line, Skipped, Bad, Header}
use Rattle.csp_policy.specs.Types.{Directive, Disposition, Policy, PolicyList, Origin}
use Rattle.csp_model.specs.declared.policy.Disposition.TheVariants.{Enforce, Report}
use Rattle.csp_policy.specs.Refusal.{excess}
use Rattle.csp_policy.specs.declared.error.BlockError.TheVariants.{TooManyPolicies, TooManySources, LongToken}

abbrev pub HasRead : Directive → Type 0
HasRead d = d.sources ≡ map source_of d.tokens

abbrev pub AreOthers : Directive → Directive → Type 0
AreOthers d e = d.name ≢ e.name

-- Names

others_differ : (d : Directive) (ds : List Directive) → All (AreOthers d) (filter (λ e. not (same_name e d)) ds)
others_differ d [] = All-nil (AreOthers d)
others_differ d (e ∷ ds) = elim (same_name e d) as (λ b. same_name e d ≡ b → All (AreOthers d) (filter (λ e. not (same_name e d)) (e ∷ ds))) [
  | true ↦ λ h. rw h (others_differ d ds)
  | false ↦ λ h. rw h (All-cons (AreOthers d) e _ (λ k. let same : same_name e d ≡ true = (bytes_eq-Decides e.name d.name).1 (sym k) in cc) (others_differ d ds))
] refl

pub firsts_differ : (ds : List Directive) → AllPairs AreOthers (firsts ds)
firsts_differ [] = λ i j d a b. absurd (omega arith)
firsts_differ (d ∷ ds) = AllPairs-cons AreOthers d _ (others_differ d (firsts ds)) (AllPairs-filter AreOthers _ _ (firsts_differ ds))

-- Sources

some_read : (made d : Directive) → HasRead made → Some made ≡ Some d → HasRead d
some_read made d read h = let e : made ≡ d = cc in subst HasRead e read

words_read : (ws : List (List ℕ)) (d : Directive) → directive_of_words ws ≡ Some d → HasRead d
words_read [] d h = cc
words_read (w ∷ ws) d h = some_read _ d refl h

piece_read : (piece : List ℕ) (d : Directive) → directive_of piece ≡ Some d → HasRead d
unfolding directive_of
piece_read piece d h = elim (is_ascii_text piece) as (λ b. (if b then directive_of_words (words piece) else None) ≡ Some d → HasRead d) [
  | true ↦ λ k. words_read (words piece) d k
  | false ↦ λ k. cc
] h

found_read : (pieces : List (List ℕ)) → All HasRead (filter_map directive_of pieces)
found_read [] = All-nil HasRead
found_read (piece ∷ pieces) = elim (directive_of piece) as (λ found. directive_of piece ≡ found → All HasRead (cons_option found (filter_map directive_of pieces))) [
  | Some d ↦ λ h. All-cons HasRead d _ (piece_read piece d h) (found_read pieces)
  | None ↦ λ h. found_read pieces
] refl

firsts_read : (ds : List Directive) → All HasRead ds → All HasRead (firsts ds)
firsts_read [] h = h
firsts_read (d ∷ ds) h = All-cons HasRead d _ (All-head HasRead d ds h) (All-filter _ HasRead _ (firsts_read ds (All-tail HasRead d ds h)))

pub directives_read : (value : List ℕ) → All HasRead (directives_of value)
directives_read value = firsts_read _ (found_read (split_at 59 value))

-- Policies

with_readable : (origin : Origin) (disposition : Disposition) (meta : Bool) (ds : List Directive) → IsValidOrigin origin → AllPairs AreOthers ds → All HasRead ds
    → All IsReadablePolicy (policy_with origin disposition meta ds)
with_readable origin disposition meta [] valid differ read = All-nil IsReadablePolicy
with_readable origin disposition meta (d ∷ ds) valid differ read =
    All-cons IsReadablePolicy _ [] (record { some = λ h. cc; distinct = differ; read = read; origin = valid }) (All-nil IsReadablePolicy)

all_flat_map : {X A : Type 0} (P : A → Type 0) (f : X → List A) → ((x : X) → All P (f x)) → (xs : List X) → All P (flat_map f xs)
all_flat_map P f h [] = All-nil P
all_flat_map P f h (x ∷ xs) = All-append P (f x) (flat_map f xs) (h x) (all_flat_map P f h xs)

one_readable : (a b c : Bool) (xs ys zs : List Policy) → All IsReadablePolicy xs → All IsReadablePolicy ys → All IsReadablePolicy zs
    → All IsReadablePolicy (if a then xs else if b then ys else if c then zs else [])
one_readable true b c xs ys zs h k l = h
one_readable false true c xs ys zs h k l = k
one_readable false false true xs ys zs h k l = l
one_readable false false false xs ys zs h k l = All-nil IsReadablePolicy

meta_readable : (origin : Origin) (value : List ℕ) → IsValidOrigin origin → All IsReadablePolicy (policy_with origin Enforce true (filter is_for_meta (directives_of value)))
meta_readable origin value valid = with_readable origin Enforce true (filter is_for_meta (directives_of value)) valid
    (AllPairs-filter AreOthers is_for_meta (directives_of value) (firsts_differ (filter_map directive_of (split_at 59 value))))
    (All-filter is_for_meta HasRead (directives_of value) (directives_read value))

in_readable : (origin : Origin) (disposition : Disposition) (value : List ℕ) → IsValidOrigin origin → All IsReadablePolicy (policies_in origin disposition value)
in_readable origin disposition value valid = all_flat_map IsReadablePolicy _ (λ piece.
    with_readable origin disposition false (directives_of piece) valid (firsts_differ (filter_map directive_of (split_at 59 piece))) (directives_read piece)) (split_at 44 value)

of_readable : (origin : Origin) → IsValidOrigin origin → (line : Line) → All IsReadablePolicy (policies_of origin line)
of_readable origin valid Skipped = All-nil IsReadablePolicy
of_readable origin valid Bad = All-nil IsReadablePolicy
of_readable origin valid (Header name value) =
    one_readable (bytes_eq (lower name) (codes "content-security-policy")) (bytes_eq (lower name) (codes "content-security-policy-report-only"))
    (bytes_eq (lower name) (codes "meta-content-security-policy")) (policies_in origin Enforce value) (policies_in origin Report value)
    (policy_with origin Enforce true (filter is_for_meta (directives_of value)))
    (in_readable origin Enforce value valid) (in_readable origin Report value valid) (meta_readable origin value valid)

pub policies_readable : (bytes : List ℕ) (origin : Origin) → IsValidOrigin origin → All IsReadablePolicy (policies bytes origin)
policies_readable bytes origin valid = all_flat_map IsReadablePolicy (policies_of origin) (of_readable origin valid) (block_lines bytes)

-- Limits

none_of : {E : Type 0} (a b c : Bool) (x y z : E) → (if a then Some x else if b then Some y else if c then Some z else None) ≡ None → (a ≡ false) × (b ≡ false) × (c ≡ false)
none_of true b c x y z h = cc
none_of false true c x y z h = cc
none_of false false true x y z h = cc
none_of false false false x y z h = (refl, refl, refl)

at_most : (limit n : ℕ) → nat_lt limit n ≡ false → n ≤ limit
at_most limit n h = grind (arith, h)

pub list_readable : (bytes : List ℕ) (origin : Origin) (list : PolicyList) → list.policies ≡ policies bytes origin → excess list.policies ≡ None → IsValidOrigin origin
    → IsReadable list
list_readable bytes origin list is none valid =
    let within = none_of (nat_lt policy_limit (length list.policies)) (nat_lt token_limit (token_count list.policies)) (nat_lt text_limit (longest_text list.policies))
    TooManyPolicies TooManySources LongToken none in
    record {
      policies = at_most policy_limit _ within.0;
      tokens = at_most token_limit _ within.1;
      texts = at_most text_limit _ within.2;
      each = subst (All IsReadablePolicy) (sym is) (policies_readable bytes origin valid);
    }
