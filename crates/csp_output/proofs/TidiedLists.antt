-- A tidied list of printable policies reads back from its header lines.
use Rattle.std.proofs.Common.{◌≡◌, ◌∙◌, sym, ap, subst, inl, inr, ℕ, Bool, true, List, [], ◌∷◌, Option, Some, None, Ok}
use Rattle.std.specs.List.{All, AllZip}
use Rattle.std.proofs.lemmas.List.Elements.{All-nil, All-cons, All-head, All-tail}
use Rattle.csp_model.specs.Ascii.{lower}
use Rattle.csp_model.specs.Policies.{IsReadable, IsReadablePolicy, is_for_meta, policies}
use Rattle.csp_model.specs.Validity.{IsValidOrigin}
use Rattle.csp_model.specs.declared.policy.Directive.{Directive}
use Rattle.csp_model.specs.declared.policy.Policy.{Policy}
use Rattle.csp_model.specs.declared.policy.PolicyList.{PolicyList}
use Rattle.csp_model.specs.declared.url.Origin.{Origin}
use Rattle.csp_policy.specs.HeaderLines.{IsPrintable, IsPrintableDirective, IsWord, header_lines}
use Rattle.csp_policy.specs.Refusal.{list_of, refusal_of, unless_refused}
use Rattle.csp_policy.specs.declared.error.BlockError.{BlockError}
use Rattle.csp_tidy.specs.Thinnings.{IsThinnedDirective, IsThinnedPolicy, Thins}
use Rattle.csp_output.specs.Tidyings.{IsTidying}
use Rattle.csp_output.specs.declared.built.Built.{Built}

-- Thinned policies can be printed

-- what holds of each token holds of those that stay
all_thinned : (P : List ℕ → Type 0) (may_go : List ℕ → Bool) (old new : List (List ℕ)) → Thins may_go old new
    → All P old → All P new
all_thinned P may_go [] new thins all = subst (All P) (sym thins) (All-nil P)
all_thinned P may_go (token ∷ old) new (inl stays) all =
    subst (All P) (sym stays.1)
    (All-cons P token stays.0 (All-head P token old all)
    (all_thinned P may_go old stays.0 stays.2 (All-tail P token old all)))
all_thinned P may_go (token ∷ old) new (inr goes) all =
    all_thinned P may_go old new goes.1 (All-tail P token old all)

directive_thinned : (p : Policy) (meta : Bool) (old new : Directive) → IsThinnedDirective p old new
    → IsPrintableDirective meta old → IsPrintableDirective meta new
directive_thinned p meta old new thinned is = record {
  lower_case = subst (λ (name : List ℕ). lower name ≡ name) (sym thinned.name) is.lower_case;
  words = All-cons (IsWord meta) new.name new.tokens
      (subst (IsWord meta) (sym thinned.name) (All-head (IsWord meta) old.name old.tokens is.words))
      (all_thinned (IsWord meta) _ old.tokens new.tokens thinned.tokens
      (All-tail (IsWord meta) old.name old.tokens is.words));
}

directives_thinned : (p : Policy) (meta : Bool) (olds news : List Directive) → AllZip (IsThinnedDirective p) olds news
    → All (IsPrintableDirective meta) olds → All (IsPrintableDirective meta) news
directives_thinned p meta [] [] zip all = All-nil (IsPrintableDirective meta)
directives_thinned p meta [] (new ∷ news) zip all = absurd zip
directives_thinned p meta (old ∷ olds) [] zip all = absurd zip
directives_thinned p meta (old ∷ olds) (new ∷ news) zip all =
    let P = IsPrintableDirective meta in
    All-cons P new news (directive_thinned p meta old new zip.0 (All-head P old olds all))
    (directives_thinned p meta olds news zip.1 (All-tail P old olds all))

abbrev IsForMeta : Directive → Type 0
IsForMeta d = is_for_meta d ≡ true

for_meta_thinned : (p : Policy) (old new : Directive) → IsThinnedDirective p old new → IsForMeta old → IsForMeta new
for_meta_thinned p old new thinned is =
    subst (λ (name : List ℕ). is_for_meta (record new { name = name }) ≡ true) (sym thinned.name) is

all_for_meta : (p : Policy) (olds news : List Directive) → AllZip (IsThinnedDirective p) olds news
    → All IsForMeta olds → All IsForMeta news
all_for_meta p [] [] zip all = All-nil IsForMeta
all_for_meta p [] (new ∷ news) zip all = absurd zip
all_for_meta p (old ∷ olds) [] zip all = absurd zip
all_for_meta p (old ∷ olds) (new ∷ news) zip all =
    All-cons IsForMeta new news (for_meta_thinned p old new zip.0 (All-head IsForMeta old olds all))
    (all_for_meta p olds news zip.1 (All-tail IsForMeta old olds all))

policy_thinned : (origin : Origin) (old new : Policy) → IsThinnedPolicy old new → IsReadablePolicy new
    → IsPrintable origin old → IsPrintable origin new
policy_thinned origin old new thinned readable is = record {
  readable = readable;
  of_origin = thinned.origin ∙ is.of_origin;
  directives = directives_thinned old new.meta old.directives new.directives thinned.directives
      (subst (λ (meta : Bool). All (IsPrintableDirective meta) old.directives) (sym thinned.meta) is.directives);
  enforced = λ meta. thinned.disposition ∙ is.enforced (sym thinned.meta ∙ meta);
  for_meta = λ meta. all_for_meta old old.directives new.directives thinned.directives
      (is.for_meta (sym thinned.meta ∙ meta));
}

policies_thinned : (origin : Origin) (olds news : List Policy) → AllZip IsThinnedPolicy olds news
    → All IsReadablePolicy news → All (IsPrintable origin) olds → All (IsPrintable origin) news
policies_thinned origin [] [] zip readable all = All-nil (IsPrintable origin)
policies_thinned origin [] (new ∷ news) zip readable all = absurd zip
policies_thinned origin (old ∷ olds) [] zip readable all = absurd zip
policies_thinned origin (old ∷ olds) (new ∷ news) zip readable all =
    let P = IsPrintable origin in
    All-cons P new news
    (policy_thinned origin old new zip.0 (All-head IsReadablePolicy new news readable) (All-head P old olds all))
    (policies_thinned origin olds news zip.1 (All-tail IsReadablePolicy new news readable) (All-tail P old olds all))

-- The list that is read

read_policies : (refused : Option BlockError) (ps : List Policy) (list : PolicyList)
    → unless_refused refused ps ≡ Ok list → list.policies ≡ ps
read_policies None ps list is =
    let same : ◌≡◌ {A = PolicyList} (record { policies = ps }) list = cc is in
    ap (λ (l : PolicyList). l.policies) (sym same)
read_policies (Some error) ps list is = absurd (cc is)

abbrev pub ReadBack : Type 0
ReadBack = (origin : Origin) (list : PolicyList) → IsReadable list → All (IsPrintable origin) list.policies
    → list_of (header_lines list.policies) origin ≡ Ok list

abbrev pub CanBePrinted : Type 0
CanBePrinted = (bytes : List ℕ) (origin : Origin) → IsValidOrigin origin
    → All (IsPrintable origin) (policies bytes origin)

pub tidied_reads_back : ReadBack → CanBePrinted → (bytes : List ℕ) (origin : Origin) (list : PolicyList)
    (built : Built) → IsValidOrigin origin → list_of bytes origin ≡ Ok list → (is : IsTidying list built)
    → list_of (header_lines is.tidied.list.policies) origin ≡ Ok is.tidied.list
tidied_reads_back back printed bytes origin list built valid read is =
    let was = read_policies (refusal_of bytes origin) (policies bytes origin) list read in
    let printable = subst (All (IsPrintable origin)) (sym was) (printed bytes origin valid) in
    back origin is.tidied.list is.is.readable
    (policies_thinned origin list.policies is.tidied.list.policies is.is.thinning is.is.readable.each printable)
