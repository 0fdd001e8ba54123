-- What is told of serialized policies.
use Rattle.std.proofs.Common.{◌≡◌, ◌∙◌, sym, ap, refl, ℕ, Bool, false, cond, List, [], ◌∷◌, ◌++◌, map, append-nil, Option, Some, None, Ok}
use Rattle.std.specs.List.{cons_option, filter, filter_map, flat_map}
use Rattle.std.proofs.lemmas.Grind.{flat_map-append}
use Rattle.std.proofs.lemmas.List.{map-append}
use Rattle.std.proofs.lemmas.List.Elements.{filter-append, filter_map-append}
use Rattle.csp_model.specs.Ascii.{split_at}
use Rattle.csp_model.specs.Policies.{policies, policy_with}
use Rattle.csp_policy.specs.Types.{Directive, Policy as KeptPolicy, PolicyList, Origin, BlockError, Fate}
use Rattle.csp_policy.specs.Delivered.{policy_kept}
use Rattle.csp_policy.specs.Fields.{trimmed}
use Rattle.csp_policy.specs.Fates.{Serialized, fates, has_text, is_told, kept, piece_text}
use Rattle.csp_policy.specs.Refusal.{list_of, refusal_of, unless_refused}
use Rattle.csp_policy.specs.declared.fate.Reason.TheVariants.{Duplicate, NotAscii, NotInMeta}
use Rattle.csp_policy.specs.ReadingLaws.{directives_told, is_piece, numbered, policy_line, policy_told}
use Rattle.csp_policy.specs.Told.{Told, Dropped, directives_in, number_behind, reason_text, told_dropped, told_from, told_policy, told_with}

-- The pieces that are dropped are no policies

no_policy : (origin : Origin) (line : ℕ) (pieces : List (List ℕ × Fate))
    → filter_map (policy_told origin) (filter_map (told_dropped line) pieces) ≡ []
no_policy origin line [] = refl
no_policy origin line ((text, Fate.Empty) ∷ pieces) = no_policy origin line pieces
no_policy origin line ((text, Fate.Dropped reason) ∷ pieces) = no_policy origin line pieces
no_policy origin line ((text, Fate.Kept d) ∷ pieces) = no_policy origin line pieces

no_directive : (line : ℕ) (pieces : List (List ℕ × Fate))
    → flat_map directives_told (filter_map (told_dropped line) pieces) ≡ []
no_directive line [] = refl
no_directive line ((text, Fate.Empty) ∷ pieces) = no_directive line pieces
no_directive line ((text, Fate.Dropped reason) ∷ pieces) = no_directive line pieces
no_directive line ((text, Fate.Kept d) ∷ pieces) = no_directive line pieces

all_pieces : (line : ℕ) (pieces : List (List ℕ × Fate))
    → filter is_piece (filter_map (told_dropped line) pieces) ≡ filter_map (told_dropped line) pieces
all_pieces line [] = refl
all_pieces line ((text, Fate.Empty) ∷ pieces) = all_pieces line pieces
all_pieces line ((text, Fate.Dropped Duplicate) ∷ pieces) =
    ap (λ (l : List Told). Dropped (trimmed text) line (reason_text Duplicate) ∷ l) (all_pieces line pieces)
all_pieces line ((text, Fate.Dropped NotAscii) ∷ pieces) =
    ap (λ (l : List Told). Dropped (trimmed text) line (reason_text NotAscii) ∷ l) (all_pieces line pieces)
all_pieces line ((text, Fate.Dropped NotInMeta) ∷ pieces) =
    ap (λ (l : List Told). Dropped (trimmed text) line (reason_text NotInMeta) ∷ l) (all_pieces line pieces)
all_pieces line ((text, Fate.Kept d) ∷ pieces) = all_pieces line pieces

no_line : (line : ℕ) (pieces : List (List ℕ × Fate))
    → filter_map policy_line (filter_map (told_dropped line) pieces) ≡ []
no_line line [] = refl
no_line line ((text, Fate.Empty) ∷ pieces) = no_line line pieces
no_line line ((text, Fate.Dropped Duplicate) ∷ pieces) = no_line line pieces
no_line line ((text, Fate.Dropped NotAscii) ∷ pieces) = no_line line pieces
no_line line ((text, Fate.Dropped NotInMeta) ∷ pieces) = no_line line pieces
no_line line ((text, Fate.Kept d) ∷ pieces) = no_line line pieces

-- One serialized policy

one_policy : (origin : Origin) (number : ℕ) (s : Serialized) (ds : List Directive)
    → cons_option (policy_told origin (told_policy number s ds)) [] ≡ numbered number (policy_with origin s.disposition s.meta ds)
one_policy origin number s [] = refl
one_policy origin number s (d ∷ ds) = refl

one_kept : (number : ℕ) (s : Serialized) (ds : List Directive) → directives_told (told_policy number s ds) ≡ ds
one_kept number s [] = refl
one_kept number s (d ∷ ds) = refl

one_piece : (number : ℕ) (s : Serialized) (ds : List Directive) → is_piece (told_policy number s ds) ≡ false
one_piece number s [] = refl
one_piece number s (d ∷ ds) = refl

one_line : (number : ℕ) (s : Serialized) (ds : List Directive) → policy_line (told_policy number s ds) ≡ Some s.line
one_line number s [] = refl
one_line number s (d ∷ ds) = refl

onto : {A : Type 0} (o : Option A) (xs : List A) → cons_option o xs ≡ cons_option o [] ++ xs
onto None xs = refl
onto (Some a) xs = refl

-- All of them

numbered_behind : (origin : Origin) (number : ℕ) (s : Serialized) (ds : List Directive) (ps : List KeptPolicy)
    → numbered number (policy_with origin s.disposition s.meta ds) ++ numbered (number_behind number ds) ps
    ≡ numbered number (policy_with origin s.disposition s.meta ds ++ ps)
numbered_behind origin number s [] ps = refl
numbered_behind origin number s (d ∷ ds) ps = refl

with_policy : (origin : Origin) (number : ℕ) (s : Serialized) (pieces : List (List ℕ × Fate))
    → filter_map (policy_told origin) (told_with number s pieces)
    ≡ numbered number (policy_with origin s.disposition s.meta (directives_in pieces))
with_policy origin number s pieces =
    ap (cons_option (policy_told origin (told_policy number s (directives_in pieces)))) (no_policy origin s.line pieces)
    ∙ one_policy origin number s (directives_in pieces)

pub told_policies : (origin : Origin) (number : ℕ) (all : List Serialized)
    → filter_map (policy_told origin) (told_from number all) ≡ numbered number (flat_map (policy_kept origin) all)
told_policies origin number [] = refl
told_policies origin number (s ∷ rest) =
    let ds : List Directive = directives_in (fates s.meta s.text) in
    let behind : List Told = told_from (number_behind number ds) rest in
    filter_map-append (policy_told origin) (told_with number s (fates s.meta s.text)) behind
    ∙ ap (λ (l : List (ℕ × KeptPolicy)). l ++ filter_map (policy_told origin) behind) (with_policy origin number s (fates s.meta s.text))
    ∙ ap (λ (l : List (ℕ × KeptPolicy)). numbered number (policy_with origin s.disposition s.meta ds) ++ l)
    (told_policies origin (number_behind number ds) rest)
    ∙ numbered_behind origin number s ds (flat_map (policy_kept origin) rest)

with_kept : (number : ℕ) (s : Serialized) (pieces : List (List ℕ × Fate))
    → flat_map directives_told (told_with number s pieces) ≡ filter_map kept pieces
with_kept number s pieces =
    ap (λ (l : List Directive). directives_told (told_policy number s (directives_in pieces)) ++ l) (no_directive s.line pieces)
    ∙ append-nil (directives_told (told_policy number s (directives_in pieces)))
    ∙ one_kept number s (directives_in pieces)

pub told_kept : (number : ℕ) (all : List Serialized)
    → flat_map directives_told (told_from number all)
    ≡ filter_map kept (flat_map (λ (s : Serialized). fates s.meta s.text) all)
told_kept number [] = refl
told_kept number (s ∷ rest) =
    let behind : List Told = told_from (number_behind number (directives_in (fates s.meta s.text))) rest in
    let pieces : List (List ℕ × Fate) = flat_map (λ (s : Serialized). fates s.meta s.text) rest in
    flat_map-append directives_told (told_with number s (fates s.meta s.text)) behind
    ∙ ap (λ (l : List Directive). l ++ flat_map directives_told behind) (with_kept number s (fates s.meta s.text))
    ∙ ap (λ (l : List Directive). filter_map kept (fates s.meta s.text) ++ l)
    (told_kept (number_behind number (directives_in (fates s.meta s.text))) rest)
    ∙ sym (filter_map-append kept (fates s.meta s.text) pieces)

with_pieces : (number : ℕ) (s : Serialized) (pieces : List (List ℕ × Fate))
    → filter is_piece (told_with number s pieces) ≡ filter_map (told_dropped s.line) pieces
with_pieces number s pieces =
    let t : Told = told_policy number s (directives_in pieces) in
    let rest : List Told = filter is_piece (filter_map (told_dropped s.line) pieces) in
    ap (λ (b : Bool). cond b (t ∷ rest) rest) (one_piece number s (directives_in pieces)) ∙ all_pieces s.line pieces

pub told_pieces : (number : ℕ) (all : List Serialized)
    → filter is_piece (told_from number all)
    ≡ flat_map (λ (s : Serialized). filter_map (told_dropped s.line) (fates s.meta s.text)) all
told_pieces number [] = refl
told_pieces number (s ∷ rest) =
    let next : ℕ = number_behind number (directives_in (fates s.meta s.text)) in
    filter-append is_piece (told_with number s (fates s.meta s.text)) (told_from next rest)
    ∙ ap (λ (l : List Told). l ++ filter is_piece (told_from next rest)) (with_pieces number s (fates s.meta s.text))
    ∙ ap (λ (l : List Told). filter_map (told_dropped s.line) (fates s.meta s.text) ++ l) (told_pieces next rest)

with_line : (number : ℕ) (s : Serialized) (pieces : List (List ℕ × Fate))
    → filter_map policy_line (told_with number s pieces) ≡ s.line ∷ []
with_line number s pieces =
    ap (cons_option (policy_line (told_policy number s (directives_in pieces)))) (no_line s.line pieces)
    ∙ ap (λ (o : Option ℕ). cons_option o []) (one_line number s (directives_in pieces))

pub told_lines : (number : ℕ) (all : List Serialized)
    → filter_map policy_line (told_from number all) ≡ map (λ (s : Serialized). s.line) all
told_lines number [] = refl
told_lines number (s ∷ rest) =
    let next : ℕ = number_behind number (directives_in (fates s.meta s.text)) in
    filter_map-append policy_line (told_with number s (fates s.meta s.text)) (told_from next rest)
    ∙ ap (λ (l : List ℕ). l ++ filter_map policy_line (told_from next rest)) (with_line number s (fates s.meta s.text))
    ∙ ap (λ (l : List ℕ). s.line ∷ l) (told_lines next rest)

-- The pieces that have text

pub with_text : ((meta : Bool) (text : List ℕ)
    → filter has_text (split_at 59 text) ≡ map piece_text (filter is_told (fates meta text))) → (all : List Serialized)
    → filter has_text (flat_map (λ (s : Serialized). split_at 59 s.text) all)
    ≡ map piece_text (filter is_told (flat_map (λ (s : Serialized). fates s.meta s.text) all))
with_text law [] = refl
with_text law (s ∷ rest) =
    let texts : List (List ℕ) = flat_map (λ (s : Serialized). split_at 59 s.text) rest in
    let pieces : List (List ℕ × Fate) = flat_map (λ (s : Serialized). fates s.meta s.text) rest in
    filter-append has_text (split_at 59 s.text) texts
    ∙ ap (λ (l : List (List ℕ)). l ++ filter has_text texts) (law s.meta s.text)
    ∙ ap (λ (l : List (List ℕ)). map piece_text (filter is_told (fates s.meta s.text)) ++ l) (with_text law rest)
    ∙ sym (map-append piece_text (filter is_told (fates s.meta s.text)) (filter is_told pieces))
    ∙ ap (map piece_text) (sym (filter-append is_told (fates s.meta s.text) pieces))

-- The list that a block gives

unless : (refused : Option BlockError) (ps : List KeptPolicy) (list : PolicyList) → unless_refused refused ps ≡ Ok list
    → ps ≡ list.policies
unless None ps list is = let same : record { policies = ps } ≡ list = cc is in ap (λ (l : PolicyList). l.policies) same
unless (Some error) ps list is = absurd (cc is)

pub listed : (bytes : List ℕ) (origin : Origin) (list : PolicyList) → list_of bytes origin ≡ Ok list
    → policies bytes origin ≡ list.policies
listed bytes origin list is = unless (refusal_of bytes origin) (policies bytes origin) list is
