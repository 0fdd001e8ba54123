-- What is told of a file has numbers that can be printed, and directives as reading makes them.
use Rattle.std.proofs.Common.{arith, ◌≡◌, refl, ℕ, ◌+◌, ◌<◌, ◌≤◌, ◌^◌, Bool, true, false, cond, not, ◌||◌, List, [], ◌∷◌, ◌++◌, map, length, codes}
use Rattle.std.specs.Prelude.{⊤}
use Rattle.std.specs.List.{cons_option, filter_map, flat_map}
use Rattle.std.specs.Str.{bytes_eq}
use Rattle.csp_model.specs.Ascii.{is_ascii_text, lower, split_at, words}
use Rattle.csp_model.specs.Policies.{Line, Skipped, Bad, Header, directive_of, directive_of_words, firsts, is_for_meta, policy_with}
use Rattle.csp_model.specs.Reading.{source_of}
use Rattle.csp_policy.specs.Types.{Directive, Disposition, Policy as KeptPolicy, Origin, Fate}
use Rattle.csp_model.specs.declared.policy.Disposition.TheVariants.{Enforce, Report}
use Rattle.csp_policy.specs.Delivered.{policy_kept}
use Rattle.csp_policy.specs.Fates.{Serialized, delivered_as, delivered_by, delivered_from, fate_of, fate_with, fates, fates_behind, has_name, kept}
use Rattle.csp_policy.specs.declared.fate.Reason.TheVariants.{Duplicate, NotAscii, NotInMeta}
use Rattle.csp_policy.specs.Told.{Told, Policy, Dropped, directives_in, number_behind, told_dropped, told_from, told_policy, told_with}

abbrev pub IsRead : Directive → Type 0
IsRead d = d.sources ≡ map source_of d.tokens

abbrev pub AreRead : List Directive → Type 0
AreRead [] = ⊤
AreRead (d ∷ ds) = IsRead d × AreRead ds

abbrev pub IsSound : Told → Type 0
IsSound (Policy number line disposition meta ds) = (number < 2 ^ 64) × (line < 2 ^ 64) × AreRead ds
IsSound (Dropped text line reason) = line < 2 ^ 64

abbrev pub AreSound : List Told → Type 0
AreSound [] = ⊤
AreSound (t ∷ ts) = IsSound t × AreSound ts

sound_append : (ts us : List Told) → AreSound ts → AreSound us → AreSound (ts ++ us)
sound_append [] us h k = k
sound_append (t ∷ ts) us h k = (h.0, sound_append ts us h.1 k)

-- Directives

abbrev IsReadFate : Fate → Type 0
IsReadFate Fate.Empty = ⊤
IsReadFate (Fate.Dropped reason) = ⊤
IsReadFate (Fate.Kept d) = IsRead d

chosen_read : (later stays : Bool) (d : Directive) → IsRead d
    → IsReadFate (cond later (Fate.Dropped Duplicate) (cond stays (Fate.Kept d) (Fate.Dropped NotInMeta)))
chosen_read true stays d is = tt
chosen_read false true d is = is
chosen_read false false d is = tt

words_read : (meta : Bool) (before : List Directive) (ws : List (List ℕ))
    → IsReadFate (fate_with meta before (directive_of_words ws))
words_read meta before [] = tt
words_read meta before (w ∷ ws) =
    let d : Directive = record { name = lower w; tokens = ws; sources = map source_of ws } in
    chosen_read (has_name d.name before) (not meta || is_for_meta d) d refl

ascii_read : (ascii meta : Bool) (before : List Directive) (ws : List (List ℕ))
    → IsReadFate (cond ascii (fate_with meta before (directive_of_words ws)) (Fate.Dropped NotAscii))
ascii_read true meta before ws = words_read meta before ws
ascii_read false meta before ws = tt

one_read : (text : List ℕ) (f : Fate) (ds : List Directive) → IsReadFate f → AreRead ds → AreRead (cons_option (kept (text, f)) ds)
one_read text Fate.Empty ds is are = are
one_read text (Fate.Dropped reason) ds is are = are
one_read text (Fate.Kept d) ds is are = (is, are)

read_behind : (meta : Bool) (before xs : List (List ℕ)) → AreRead (filter_map kept (fates_behind meta before xs))
read_behind meta before [] = tt
read_behind meta before (x ∷ xs) =
    one_read x (fate_of meta before x) (filter_map kept (fates_behind meta (before ++ x ∷ []) xs))
    (ascii_read (is_ascii_text x) meta (firsts (filter_map directive_of before)) (words x))
    (read_behind meta (before ++ x ∷ []) xs)

-- Lines

abbrev pub HaveLines : List Serialized → Type 0
HaveLines [] = ⊤
HaveLines (s ∷ rest) = (s.line < 2 ^ 64) × HaveLines rest

lines_append : (xs ys : List Serialized) → HaveLines xs → HaveLines ys → HaveLines (xs ++ ys)
lines_append [] ys h k = k
lines_append (x ∷ xs) ys h k = (h.0, lines_append xs ys h.1 k)

lines_between : (line : ℕ) (disposition : Disposition) (texts : List (List ℕ)) → line < 2 ^ 64
    → HaveLines (map (λ (text : List ℕ). record { line = line; disposition = disposition; meta = false; text = text }) texts)
lines_between line disposition [] few = tt
lines_between line disposition (text ∷ texts) few = (few, lines_between line disposition texts few)

one_of : {A : Type 0} (P : A → Type 0) (a b c : Bool) (w x y z : A) → P w → P x → P y → P z
    → P (cond a w (cond b x (cond c y z)))
one_of P true b c w x y z p q r s = p
one_of P false true c w x y z p q r s = q
one_of P false false true w x y z p q r s = r
one_of P false false false w x y z p q r s = s

lines_by : (number : ℕ) (line : Line) → number < 2 ^ 64 → HaveLines (delivered_by number line)
lines_by number Skipped few = tt
lines_by number Bad few = tt
lines_by number (Header name value) few =
    one_of (λ way. HaveLines (delivered_as number way value)) (bytes_eq (lower name) (codes "content-security-policy"))
    (bytes_eq (lower name) (codes "content-security-policy-report-only"))
    (bytes_eq (lower name) (codes "meta-content-security-policy")) _ _ _ _
    (lines_between number Enforce (split_at 44 value) few) (lines_between number Report (split_at 44 value) few) (few, tt) tt

pub lines_from : (number : ℕ) (lines : List Line) → number + length lines ≤ 2 ^ 63 → HaveLines (delivered_from number lines)
lines_from number [] few = tt
lines_from number (line ∷ lines) few =
    lines_append (delivered_by number line) (delivered_from (number + 1) lines)
    (lines_by number line (omega (arith, few))) (lines_from (number + 1) lines (omega (arith, few)))

-- Numbers

dropped_sound : (line : ℕ) (pieces : List (List ℕ × Fate)) → line < 2 ^ 64 → AreSound (filter_map (told_dropped line) pieces)
dropped_sound line [] few = tt
dropped_sound line ((text, Fate.Empty) ∷ pieces) few = dropped_sound line pieces few
dropped_sound line ((text, Fate.Dropped reason) ∷ pieces) few = (few, dropped_sound line pieces few)
dropped_sound line ((text, Fate.Kept d) ∷ pieces) few = dropped_sound line pieces few

policy_sound : (origin : Origin) (number : ℕ) (s : Serialized) (ds : List Directive) (ps : List KeptPolicy)
    → number + length (policy_with origin s.disposition s.meta ds ++ ps) ≤ 64 → s.line < 2 ^ 64 → AreRead ds
    → IsSound (told_policy number s ds)
policy_sound origin number s [] ps few line read = line
policy_sound origin number s (d ∷ ds) ps few line read = (omega (arith, few), line, read)

few_behind : (origin : Origin) (number : ℕ) (s : Serialized) (ds : List Directive) (ps : List KeptPolicy)
    → number + length (policy_with origin s.disposition s.meta ds ++ ps) ≤ 64 → number_behind number ds + length ps ≤ 64
few_behind origin number s [] ps few = few
few_behind origin number s (d ∷ ds) ps few = omega (arith, few)

pub sound_from : (origin : Origin) (number : ℕ) (all : List Serialized)
    → number + length (flat_map (policy_kept origin) all) ≤ 64 → HaveLines all → AreSound (told_from number all)
sound_from origin number [] few lines = tt
sound_from origin number (s ∷ rest) few lines =
    let ds : List Directive = directives_in (fates s.meta s.text) in
    let ps : List KeptPolicy = flat_map (policy_kept origin) rest in
    sound_append (told_with number s (fates s.meta s.text)) (told_from (number_behind number ds) rest) (
      policy_sound origin number s ds ps few lines.0 (read_behind s.meta [] (split_at 59 s.text)),
      dropped_sound s.line (fates s.meta s.text) lines.0,
    )
    (sound_from origin (number_behind number ds) rest (few_behind origin number s ds ps few) lines.1)
