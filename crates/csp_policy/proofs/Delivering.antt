-- What becomes of the pieces of a block, and its policies.
use Rattle.std.proofs.Common.{arith, ◌≡◌, ◌∙◌, sym, ap, refl, ℕ, ◌+◌, Bool, true, false, cond, List, [], ◌∷◌, ◌++◌, length, map, append-nil, append_assoc, codes}
use Rattle.std.specs.List.{cons_option, filter, filter_map, flat_map}
use Rattle.std.specs.Str.{bytes_eq}
use Rattle.std.proofs.lemmas.Grind.{flat_map-append}
use Rattle.csp_model.specs.Ascii.{lower, split_at}
use Rattle.csp_model.specs.Policies.{Line, Skipped, Bad, Header, directives_of, firsts, is_for_meta, policies_in, policies_of, policy_with}
use Rattle.csp_policy.specs.Types.{Directive, Disposition, Policy, Origin, Fate, Delivery}
use Rattle.csp_model.specs.declared.policy.Disposition.TheVariants.{Enforce, Report}
use Rattle.csp_policy.specs.Fates.{Serialized, delivered_as, delivered_by, delivered_from, delivery_of, fate_of, fates, fates_behind, kept}
use Rattle.csp_policy.specs.Delivered.{policy_kept}
use Rattle.csp_policy.specs.Room.{kept_of}
use Rattle.csp_policy.specs.declared.fate.Fate.TheVariants.{Empty, Dropped, Kept}
use Rattle.csp_policy.specs.declared.serialized.Delivery.TheVariants.{InHeader, InMeta, Not}
use Rattle.csp_policy.proofs.Fated.{kept_in, kept_step, of_pieces}

-- The directives that are kept

with_kept : (piece : List ℕ) (fate : Fate) (rest : List Directive) → kept_in fate ++ rest ≡ cons_option (kept (piece, fate)) rest
with_kept piece Empty rest = refl
with_kept piece (Dropped reason) rest = refl
with_kept piece (Kept d) rest = refl

kept_behind : (meta : Bool) (before xs : List (List ℕ))
    → kept_of meta (firsts (of_pieces (before ++ xs))) ≡ kept_of meta (firsts (of_pieces before)) ++ filter_map kept (fates_behind meta before xs)
kept_behind meta before [] =
    ap (λ (l : List (List ℕ)). kept_of meta (firsts (of_pieces l))) (append-nil before) ∙ sym (append-nil (kept_of meta (firsts (of_pieces before))))
kept_behind meta before (x ∷ xs) =
    let rest : List Directive = filter_map kept (fates_behind meta (before ++ x ∷ []) xs) in
    ap (λ (l : List (List ℕ)). kept_of meta (firsts (of_pieces l))) (sym (append_assoc before (x ∷ []) xs))
    ∙ kept_behind meta (before ++ x ∷ []) xs
    ∙ ap (λ (l : List Directive). l ++ rest) (kept_step meta before x)
    ∙ append_assoc (kept_of meta (firsts (of_pieces before))) (kept_in (fate_of meta before x)) rest
    ∙ ap (λ (l : List Directive). kept_of meta (firsts (of_pieces before)) ++ l) (with_kept x (fate_of meta before x) rest)

none_kept : (meta : Bool) → kept_of meta [] ≡ []
none_kept true = refl
none_kept false = refl

-- the directives of a serialized policy are those of its pieces that are kept
pub kept_directives : (meta : Bool) (text : List ℕ) → filter_map kept (fates meta text) ≡ kept_of meta (directives_of text)
kept_directives meta text =
    sym (kept_behind meta [] (split_at 59 text) ∙ ap (λ (l : List Directive). l ++ filter_map kept (fates meta text)) (none_kept meta))

-- The policies

kept_between : (origin : Origin) (line : ℕ) (disposition : Disposition) (pieces : List (List ℕ))
    → flat_map (policy_kept origin) (map (λ (piece : List ℕ). record { line = line; disposition = disposition; meta = false; text = piece }) pieces)
    ≡ flat_map (λ (piece : List ℕ). policy_with origin disposition false (directives_of piece)) pieces
kept_between origin line disposition [] = refl
kept_between origin line disposition (piece ∷ pieces) =
    let behind : List Policy = flat_map (policy_kept origin) (map (λ (p : List ℕ). record { line = line; disposition = disposition; meta = false; text = p }) pieces) in
    ap (λ (ds : List Directive). policy_with origin disposition false ds ++ behind) (kept_directives false piece)
    ∙ ap (λ (ps : List Policy). policy_with origin disposition false (directives_of piece) ++ ps) (kept_between origin line disposition pieces)

-- the policies that a value delivers so
abbrev pub policies_as : Origin → Delivery → List ℕ → List Policy
policies_as origin (InHeader disposition) value = policies_in origin disposition value
policies_as origin InMeta value = policy_with origin Enforce true (filter is_for_meta (directives_of value))
policies_as origin Not value = []

kept_as : (origin : Origin) (line : ℕ) (delivery : Delivery) (value : List ℕ)
    → flat_map (policy_kept origin) (delivered_as line delivery value) ≡ policies_as origin delivery value
kept_as origin line (InHeader disposition) value = kept_between origin line disposition (split_at 44 value)
kept_as origin line InMeta value =
    append-nil (policy_kept origin (record { line = line; disposition = Enforce; meta = true; text = value }))
    ∙ ap (policy_with origin Enforce true) (kept_directives true value)
kept_as origin line Not value = refl

-- whichever of the three names it is
by_names : (origin : Origin) (value : List ℕ) (a b c : Bool)
    → policies_as origin (cond a (InHeader Enforce) (cond b (InHeader Report) (cond c InMeta Not))) value
    ≡ cond a (policies_in origin Enforce value) (cond b (policies_in origin Report value)
    (cond c (policy_with origin Enforce true (filter is_for_meta (directives_of value))) []))
by_names origin value true b c = refl
by_names origin value false true c = refl
by_names origin value false false true = refl
by_names origin value false false false = refl

pub by_delivery : (origin : Origin) (name value : List ℕ)
    → policies_as origin (delivery_of name) value ≡ policies_of origin (Header name value)
by_delivery origin name value =
    by_names origin value (bytes_eq (lower name) (codes "content-security-policy"))
    (bytes_eq (lower name) (codes "content-security-policy-report-only"))
    (bytes_eq (lower name) (codes "meta-content-security-policy"))

kept_by : (origin : Origin) (number : ℕ) (line : Line)
    → flat_map (policy_kept origin) (delivered_by number line) ≡ policies_of origin line
kept_by origin number Skipped = refl
kept_by origin number Bad = refl
kept_by origin number (Header name value) = kept_as origin number (delivery_of name) value ∙ by_delivery origin name value

pub kept_from : (origin : Origin) (number : ℕ) (lines : List Line)
    → flat_map (policy_kept origin) (delivered_from number lines) ≡ flat_map (policies_of origin) lines
kept_from origin number [] = refl
kept_from origin number (line ∷ lines) =
    flat_map-append (policy_kept origin) (delivered_by number line) (delivered_from (number + 1) lines)
    ∙ ap (λ (ps : List Policy). ps ++ flat_map (policy_kept origin) (delivered_from (number + 1) lines)) (kept_by origin number line)
    ∙ ap (λ (ps : List Policy). policies_of origin line ++ ps) (kept_from origin (number + 1) lines)

-- One more line

pub delivered_more : (number : ℕ) (lines : List Line) (line : Line)
    → delivered_from number (lines ++ line ∷ []) ≡ delivered_from number lines ++ delivered_by (number + length lines) line
delivered_more number [] line =
    append-nil (delivered_by number line)
    ∙ ap (λ (n : ℕ). delivered_by n line) (let e : number ≡ number + length {A = Line} [] = omega arith in e)
delivered_more number (first ∷ lines) line =
    ap (λ (rest : List Serialized). delivered_by number first ++ rest) (delivered_more (number + 1) lines line)
    ∙ sym (append_assoc (delivered_by number first) (delivered_from (number + 1) lines) (delivered_by ((number + 1) + length lines) line))
    ∙ ap (λ (n : ℕ). delivered_from number (first ∷ lines) ++ delivered_by n line)
    (let e : (number + 1) + length lines ≡ number + length (first ∷ lines) = omega arith in e)
