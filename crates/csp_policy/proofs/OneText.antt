-- The text of a reading determines the policies that are told.
use Rattle.std.proofs.Common.{◌≡◌, ◌≢◌, ◌∙◌, sym, ap, ap₂, refl, subst, ℕ, ◌+◌, ◌<◌, ◌^◌, Bool, true, false, List, [], ◌∷◌, ◌++◌, map, append_assoc, append-nil, decimal, le_refl, Option, Some}
use Rattle.std.specs.List.{cons_option, filter_map, flat_map}
use Rattle.std.specs.Str.{is_utf8}
use Rattle.std.proofs.lemmas.Fmt.{decimal_injective}
use Rattle.json.specs.Find.{BeginsWith}
use Rattle.json.specs.Json.{Members, object, value}
use Rattle.json.specs.Lex.{tokens}
use Rattle.json.specs.Print.{print}
use Rattle.json.specs.Token.{end_object}
use Rattle.json.specs.Tree.{json_tokens, items_tokens, depth}
use Rattle.json.proofs.Printed.Decimals.{IsNumber-decimal}
use Rattle.json.proofs.Printed.Tokens.{tokens-print}
use Rattle.json.proofs.Printed.Trees.{value-json_tokens}
use Rattle.json.proofs.Unique.Places.{one_object}
use Rattle.csp_model.specs.Names.{disposition_text}
use Rattle.csp_model.specs.Reading.{source_of}
use Rattle.csp_policy.specs.Types.{Directive, Disposition, Policy as KeptPolicy, Source, Origin}
use Rattle.csp_model.specs.declared.policy.Disposition.TheVariants.{Enforce, Report}
use Rattle.csp_policy.specs.ReadingLaws.{numbered, policy_told}
use Rattle.csp_policy.specs.ReadingLines.{directive_items, directive_members, dropped_members, shown_text, token_items, told_line, told_members, told_value}
use Rattle.csp_policy.specs.Told.{Told, Policy, Dropped}
use Rattle.csp_policy.proofs.LineEnds.{ArePlain, no_feed_in_decimal, no_feed_in_print, plain_append, printable, same_line, some_line}
use Rattle.csp_policy.proofs.Sound.{AreRead, AreSound, IsRead, IsSound}

-- Values can be printed on a line

plain_tokens : (ts : List (List ℕ)) (sources : List Source) → ArePlain (items_tokens (token_items ts sources))
plain_tokens [] sources = (tt, tt)
plain_tokens (t ∷ ts) [] = (tt, tt)
plain_tokens (t ∷ ts) (source ∷ sources) = (tt, (tt, (tt, (tt, (tt, (tt, plain_tokens ts sources))))))

plain_directives : (disposition : Disposition) (ds : List Directive) → ArePlain (items_tokens (directive_items disposition ds))
plain_directives disposition [] = (tt, tt)
plain_directives disposition (d ∷ ds) = (
  tt,
  (
    tt,
    (
      tt,
      (
        tt,
        (
          tt,
          (
            tt,
            (
              tt,
              plain_append (items_tokens (token_items d.tokens d.sources) ++ end_object ∷ []) (items_tokens (directive_items disposition ds))
                  (plain_append (items_tokens (token_items d.tokens d.sources)) (end_object ∷ []) (plain_tokens d.tokens d.sources) (tt, tt))
                  (plain_directives disposition ds),
            ),
          ),
        ),
      ),
    ),
  ),
)

plain_dropped : (utf8 : Bool) (text : List ℕ) (line : ℕ) (reason : List ℕ) → line < 2 ^ 64
    → ArePlain (json_tokens (object (dropped_members utf8 text line reason)))
plain_dropped true text line reason few =
    (tt, (tt, (tt, (tt, ((IsNumber-decimal line few, no_feed_in_decimal line few), (tt, (tt, (tt, tt))))))))
plain_dropped false text line reason few =
    (tt, (tt, (tt, (tt, ((IsNumber-decimal line few, no_feed_in_decimal line few), (tt, (tt, (tt, (tt, (tt, tt))))))))))

plain : (t : Told) → IsSound t → ArePlain (json_tokens (told_value t))
plain (Policy number line disposition meta ds) is = (
  tt,
  (
    tt,
    (
      (IsNumber-decimal number is.0, no_feed_in_decimal number is.0),
      (
        tt,
        (
          (IsNumber-decimal line is.1, no_feed_in_decimal line is.1),
          (
            tt,
            (
              tt,
              (
                tt,
                (
                  tt,
                  (
                    tt,
                    (
                      tt,
                      plain_append (items_tokens (directive_items disposition ds)) (end_object ∷ []) (plain_directives disposition ds) (tt, tt),
                    ),
                  ),
                ),
              ),
            ),
          ),
        ),
      ),
    ),
  ),
)
plain (Dropped text line reason) is = plain_dropped (is_utf8 text) (shown_text text) line reason is

-- Lines are the same only of the same values

begins : (ms : Members) → BeginsWith (json_tokens (object ms)) (object ms)
begins ms = (
  depth (object ms),
  [],
  ap (value (depth (object ms))) (sym (append-nil (json_tokens (object ms))))
      ∙ value-json_tokens (object ms) (depth (object ms)) [] (le_refl (depth (object ms))),
)

same_values : (t u : Told) → IsSound t → IsSound u → print (json_tokens (told_value t)) ≡ print (json_tokens (told_value u))
    → told_members t ≡ told_members u
same_values t u h k is =
    let same : json_tokens (told_value t) ≡ json_tokens (told_value u) =
    sym (tokens-print (json_tokens (told_value t)) (printable (json_tokens (told_value t)) (plain t h)))
    ∙ ap tokens is ∙ tokens-print (json_tokens (told_value u)) (printable (json_tokens (told_value u)) (plain u k)) in
    one_object (json_tokens (told_value t)) (told_members t) (told_members u) (begins (told_members t))
    (subst (λ ts. BeginsWith ts (object (told_members u))) (sym same) (begins (told_members u)))

-- Values are the same only of the same policies

same_tokens : (ts us : List (List ℕ)) → token_items ts (map source_of ts) ≡ token_items us (map source_of us) → ts ≡ us
same_tokens [] [] is = refl
same_tokens [] (u ∷ us) is = absurd (cc is)
same_tokens (t ∷ ts) [] is = absurd (cc is)
same_tokens (t ∷ ts) (u ∷ us) is =
    let first : t ≡ u = cc is in
    let behind : token_items ts (map source_of ts) ≡ token_items us (map source_of us) = cc is in
    ap₂ (λ (a : List ℕ) (b : List (List ℕ)). a ∷ b) first (same_tokens ts us behind)

made : List ℕ → List (List ℕ) → Directive
made name tokens = record { name = name; tokens = tokens; sources = map source_of tokens }

as_made : (d : Directive) → IsRead d → d ≡ made d.name d.tokens
unfolding made
as_made d is = ap (λ (l : List Source). record { name = d.name; tokens = d.tokens; sources = l }) is

same_directive : (p q : Disposition) (d e : Directive) → IsRead d → IsRead e → directive_members p d ≡ directive_members q e → d ≡ e
same_directive p q d e h k is =
    let name : d.name ≡ e.name = cc is in
    let items : token_items d.tokens d.sources ≡ token_items e.tokens e.sources = cc is in
    as_made d h
    ∙ ap₂ made name (same_tokens d.tokens e.tokens (ap (token_items d.tokens) (sym h) ∙ items ∙ ap (token_items e.tokens) k))
    ∙ sym (as_made e k)

same_directives : (p q : Disposition) (ds es : List Directive) → AreRead ds → AreRead es → directive_items p ds ≡ directive_items q es
    → ds ≡ es
same_directives p q [] [] h k is = refl
same_directives p q [] (e ∷ es) h k is = absurd (cc is)
same_directives p q (d ∷ ds) [] h k is = absurd (cc is)
same_directives p q (d ∷ ds) (e ∷ es) h k is =
    let first : directive_members p d ≡ directive_members q e = cc is in
    let behind : directive_items p ds ≡ directive_items q es = cc is in
    ap₂ (λ (a : Directive) (b : List Directive). a ∷ b) (same_directive p q d e h.0 k.0 first) (same_directives p q ds es h.1 k.1 behind)

same_disposition : (p q : Disposition) → disposition_text p ≡ disposition_text q → p ≡ q
same_disposition Enforce Enforce is = refl
same_disposition Enforce Report is = absurd (cc is)
same_disposition Report Enforce is = absurd (cc is)
same_disposition Report Report is = refl

no_policy : (number line : ℕ) (disposition : Disposition) (meta : Bool) (ds : List Directive) (utf8 : Bool) (text : List ℕ) (at : ℕ)
    (reason : List ℕ) → told_members (Policy number line disposition meta ds) ≢ dropped_members utf8 text at reason
no_policy number line disposition meta ds true text at reason is = cc is
no_policy number line disposition meta ds false text at reason is = cc is

abbrev said : Origin → ℕ → Disposition → Bool → List Directive → Option (ℕ × KeptPolicy)
said origin number disposition meta ds =
    Some (number, record { disposition = disposition; meta = meta; origin = origin; directives = ds })

same_told : (origin : Origin) (t u : Told) → IsSound t → IsSound u → told_members t ≡ told_members u
    → policy_told origin t ≡ policy_told origin u
same_told origin (Policy n l p m ds) (Policy o k q w es) h g is =
    let number : decimal n ≡ decimal o = cc is in
    let disposition : disposition_text p ≡ disposition_text q = cc is in
    let meta : m ≡ w = cc is in
    let directives : directive_items p ds ≡ directive_items q es = cc is in
    ap (λ (x : ℕ). said origin x p m ds) (decimal_injective n o h.0 g.0 number)
    ∙ ap (λ (x : Disposition). said origin o x m ds) (same_disposition p q disposition)
    ∙ ap (λ (x : Bool). said origin o q x ds) meta
    ∙ ap (λ (x : List Directive). said origin o q w x) (same_directives p q ds es h.2 g.2 directives)
same_told origin (Policy n l p m ds) (Dropped text line reason) h g is =
    absurd (no_policy n l p m ds (is_utf8 text) (shown_text text) line reason is)
same_told origin (Dropped text line reason) (Policy n l p m ds) h g is =
    absurd (no_policy n l p m ds (is_utf8 text) (shown_text text) line reason (sym is))
same_told origin (Dropped text line reason) (Dropped other k why) h g is = refl

-- Texts

pub same_policies : (origin : Origin) (ts us : List Told) → AreSound ts → AreSound us → flat_map told_line ts ≡ flat_map told_line us
    → filter_map (policy_told origin) ts ≡ filter_map (policy_told origin) us
unfolding told_line
same_policies origin [] [] h k is = refl
same_policies origin [] (u ∷ us) h k is = absurd (some_line (print (json_tokens (told_value u))) (flat_map told_line us) is)
same_policies origin (t ∷ ts) [] h k is = absurd (some_line (print (json_tokens (told_value t))) (flat_map told_line ts) (sym is))
same_policies origin (t ∷ ts) (u ∷ us) h k is =
    let one : List ℕ = print (json_tokens (told_value t)) in
    let other : List ℕ = print (json_tokens (told_value u)) in
    let found = same_line one other (flat_map told_line ts) (flat_map told_line us)
    (no_feed_in_print false (json_tokens (told_value t)) (plain t h.0))
    (no_feed_in_print false (json_tokens (told_value u)) (plain u k.0))
    (sym (append_assoc one (10 ∷ []) (flat_map told_line ts)) ∙ is ∙ append_assoc other (10 ∷ []) (flat_map told_line us)) in
    ap₂ (λ (o : Option (ℕ × KeptPolicy)) (l : List (ℕ × KeptPolicy)). cons_option o l)
    (same_told origin t u h.0 k.0 (same_values t u h.0 k.0 found.0))
    (same_policies origin ts us h.1 k.1 found.1)

pub same_numbered : (number : ℕ) (ps qs : List KeptPolicy) → numbered number ps ≡ numbered number qs → ps ≡ qs
same_numbered number [] [] is = refl
same_numbered number [] (q ∷ qs) is = absurd (cc is)
same_numbered number (p ∷ ps) [] is = absurd (cc is)
same_numbered number (p ∷ ps) (q ∷ qs) is =
    let first : ◌≡◌ {A = ℕ × KeptPolicy} (number, p) (number, q) = cc is in
    let behind : numbered (number + 1) ps ≡ numbered (number + 1) qs = cc is in
    ap₂ (λ (a : KeptPolicy) (b : List KeptPolicy). a ∷ b) (ap (λ (x : ℕ × KeptPolicy). x.1) first) (same_numbered (number + 1) ps qs behind)
