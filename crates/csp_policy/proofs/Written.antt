-- Tokens that are written one after the other are those of a value.
use Rattle.std.proofs.Common.{arith, ◌≡◌, ◌∙◌, sym, ap, refl, ℕ, Bool, true, false, cond, List, [], ◌∷◌, ◌++◌, append_assoc, IsUtf8, codes}
use Rattle.std.proofs.lemmas.Bool.{false≢true}
use Rattle.std.specs.Str.{is_utf8}
use Rattle.std.proofs.lemmas.Str.{is_utf8-from_IsUtf8, IsUtf8-from_is_utf8}
use Rattle.json.specs.Json.{object}
use Rattle.json.specs.Token.{Token, begin_object, end_object, begin_array, end_array, key}
use Rattle.json.specs.Tree.{items_tokens, json_tokens}
use Rattle.csp_model.specs.Ascii.{is_nonempty}
use Rattle.csp_policy.specs.Types.{Directive, Disposition, Source}
use Rattle.csp_policy.specs.Fates.{Serialized}
use Rattle.csp_policy.specs.Fields.{trimmed}
use Rattle.csp_policy.specs.ReadingLines.{directive_items, directive_members, dropped_members, isomorphic_decode, token_items}
use Rattle.csp_policy.specs.Told.{Policy, Dropped, decides, told_policy}
use Rattle.csp_policy.specs.Tokens.{boolean_tokens, directive_front, directive_tokens, directives_member, kept_tokens, number_tokens, other_tokens, pair, pair_tokens, policy_front, policy_tokens, text_tokens, told_tokens, tokens_member, utf8_tokens}

-- Policies

tokens_end : (ts : List (List ℕ)) (sources : List Source) → pair_tokens ts sources ++ end_array ∷ [] ≡ items_tokens (token_items ts sources)
tokens_end [] sources = refl
tokens_end (t ∷ ts) [] = refl
tokens_end (t ∷ ts) (source ∷ sources) = ap (λ (l : List Token). pair t source ++ l) (tokens_end ts sources)

directive_is : (disposition : Disposition) (d : Directive) → directive_tokens disposition d ≡ json_tokens (object (directive_members disposition d))
unfolding directive_tokens directive_front tokens_member
directive_is disposition d =
    ap (λ (l : List Token). begin_object ∷ (text_tokens (codes "name") d.name
    ++ (boolean_tokens (codes "decides") (decides disposition d.name)
    ++ ((key (codes "tokens") ∷ begin_array ∷ l) ++ end_object ∷ [])))) (tokens_end d.tokens d.sources)

directives_end : (disposition : Disposition) (ds : List Directive)
    → kept_tokens disposition ds ++ end_array ∷ [] ≡ items_tokens (directive_items disposition ds)
directives_end disposition [] = refl
directives_end disposition (d ∷ ds) =
    append_assoc (directive_tokens disposition d) (kept_tokens disposition ds) (end_array ∷ [])
    ∙ ap (λ (l : List Token). l ++ (kept_tokens disposition ds ++ end_array ∷ [])) (directive_is disposition d)
    ∙ ap (λ (l : List Token). json_tokens (object (directive_members disposition d)) ++ l) (directives_end disposition ds)

pub policy_is : (number line : ℕ) (disposition : Disposition) (meta : Bool) (ds : List Directive)
    → policy_tokens number line disposition meta ds ≡ told_tokens (Policy number line disposition meta ds)
unfolding told_tokens policy_tokens directives_member number_tokens
policy_is number line disposition meta ds =
    ap (λ (l : List Token). policy_front number line disposition meta ++ ((key (codes "directives") ∷ begin_array ∷ l) ++ end_object ∷ []))
    (directives_end disposition ds)

-- Pieces that are dropped

text_is : (utf8 : Bool) (text : List ℕ) → utf8 ≡ true → dropped_members utf8 (cond utf8 text (isomorphic_decode text)) ≡ dropped_members true text
text_is true text is = refl
text_is false text is = absurd (cc is)

other_is : (utf8 : Bool) (text : List ℕ) → (utf8 ≡ true → ⊥)
    → dropped_members utf8 (cond utf8 text (isomorphic_decode text)) ≡ dropped_members false (isomorphic_decode text)
other_is true text is = absurd (is refl)
other_is false text is = refl

pub dropped_utf8 : (shown text : List ℕ) (line : ℕ) (reason : List ℕ) → shown ≡ text → IsUtf8 text
    → utf8_tokens shown line reason ≡ told_tokens (Dropped text line reason)
unfolding told_tokens utf8_tokens number_tokens
dropped_utf8 shown text line reason same is =
    ap (λ (l : List ℕ). json_tokens (object (dropped_members true l line reason))) same
    ∙ ap (λ made. json_tokens (object (made line reason))) (sym (text_is (is_utf8 text) text (is_utf8-from_IsUtf8 text is)))

pub dropped_other : (shown text : List ℕ) (line : ℕ) (reason : List ℕ) → shown ≡ isomorphic_decode text → (IsUtf8 text → ⊥)
    → other_tokens shown line reason ≡ told_tokens (Dropped text line reason)
unfolding told_tokens other_tokens number_tokens
dropped_other shown text line reason same none =
    ap (λ (l : List ℕ). json_tokens (object (dropped_members false l line reason))) same
    ∙ ap (λ made. json_tokens (object (made line reason))) (sym (other_is (is_utf8 text) text (λ is. none (IsUtf8-from_is_utf8 text is))))

-- Serialized policies

pub none_told : (number : ℕ) (s : Serialized) (ds : List Directive) (text : List ℕ) (kept : Bool) → kept ≡ is_nonempty ds
    → kept ≡ false → text ≡ trimmed s.text → Dropped text s.line (codes "empty-policy") ≡ told_policy number s ds
none_told number s [] text kept is none same = ap (λ (l : List ℕ). Dropped l s.line (codes "empty-policy")) same
none_told number s (d ∷ ds) text kept is none same =
    let some : is_nonempty (d ∷ ds) ≡ true = grind (arith) in
    absurd (false≢true (sym none ∙ is ∙ some))
