-- What the contents of files were read from.
use Rattle.std.proofs.Common.{◌≡◌, refl, ap, subst, ℕ, Bool, true, false, cond, List, [], ◌∷◌, length, Option, Some, None, Result, Ok, Err, All}
use Rattle.std.specs.Prelude.{nat_lt, ⊤}
use Rattle.std.proofs.lemmas.List.Elements.{All-nil, All-cons, All-head, All-tail}
use Rattle.csp_embed.specs.Decisions.{only_enforced, required_of}
use Rattle.csp_io.specs.declared.log.Start.{Start}
use Rattle.csp_model.specs.Policies.{first_bad, longest_text, policies, policy_limit, text_limit, token_count, token_limit}
use Rattle.csp_model.specs.Verdict.{is_enforce}
use Rattle.csp_model.specs.declared.policy.Disposition.{Disposition}
use Rattle.csp_model.specs.declared.policy.Disposition.TheVariants.{Enforce, Report}
use Rattle.csp_model.specs.declared.policy.Policy.{Policy}
use Rattle.csp_model.specs.declared.policy.PolicyList.{PolicyList}
use Rattle.csp_model.specs.declared.url.Origin.{Origin}
use Rattle.csp_policy.specs.Refusal.{list_of, refusal_at, refusal_of, unless_refused}
use Rattle.csp_policy.specs.declared.error.BlockError.{BlockError}
use Rattle.csp_policy.specs.declared.error.BlockError.TheVariants as refusal
use Rattle.csp_run.specs.Files.{block_content, file_fault, file_limit, found_in, found_of, list_or_fault, policies_content, policy_content, read_list, read_within, refusal_cause, required_content, response_content, then_found}
use Rattle.csp_run.specs.Words.{File}
use Rattle.csp_run.specs.declared.fault.Cause.TheVariants as cause
use Rattle.csp_run.specs.declared.fault.Limit.TheVariants as limit
use Rattle.csp_run.specs.declared.fault.Role.{Role}
use Rattle.csp_run.specs.declared.fault.Role.TheVariants as role
use Rattle.csp_run.specs.declared.fault.FileFault.{FileFault}
use Rattle.csp_run.specs.Contents.{Content}
use Rattle.csp_run.specs.Contents as content

-- a header block of which this list is read
abbrev pub IsListOf : Origin → PolicyList → Type 0
IsListOf o list = (bytes : List ℕ) × (list_of bytes o ≡ Ok list)

-- what is known of the content of a file, by what it was read from
abbrev pub IsReadFrom : Origin → Content → Type 0
IsReadFrom o (content.Policies list) = IsListOf o list
IsReadFrom o (content.Requests bytes) = ⊤
IsReadFrom o (content.Proof bytes) = ⊤
IsReadFrom o (content.Required policy) = policy.disposition ≡ Enforce
IsReadFrom o (content.Response block list) = list_of block o ≡ Ok list
IsReadFrom o (content.Block block) = ⊤

-- One file

-- reading refuses nothing for want of memory
never_memory : (bad : Option ℕ) (ps : List Policy) → refusal_at bad ps ≡ Some refusal.Memory → ⊥
never_memory (Some line) ps is = cc is
never_memory None ps is =
    by (nat_lt policy_limit (length ps)) (nat_lt token_limit (token_count ps)) (nat_lt text_limit (longest_text ps)) is
  where
    by : (a b c : Bool)
        → cond a (Some refusal.TooManyPolicies) (cond b (Some refusal.TooManySources) (cond c (Some refusal.LongToken) None))
        ≡ Some refusal.Memory
        → ⊥
    by true b c e = cc e
    by false true c e = cc e
    by false false true e = cc e
    by false false false e = cc e

same_list : (file : Role) (refused : Option BlockError) (ps : List Policy) (list : PolicyList)
    → (refused ≡ Some refusal.Memory → ⊥) → list_or_fault file (refusal_cause refused) ps ≡ Ok list
    → unless_refused refused ps ≡ Ok list
same_list file None ps list real is =
    let same : ◌≡◌ {A = PolicyList} (record { policies = ps }) list = cc is in ap (λ (l : PolicyList). Ok l) same
same_list file (Some refusal.Memory) ps list real is = absurd (real refl)
same_list file (Some refused) ps list real is = absurd (cc is)

of_bytes : (o : Origin) (file : Role) (bytes : List ℕ) (list : PolicyList) → read_list o file bytes ≡ Ok list
    → list_of bytes o ≡ Ok list
of_bytes o file bytes list is =
    same_list file (refusal_of bytes o) (policies bytes o) list (never_memory (first_bad bytes) (policies bytes o)) is

of_policies : (o : Origin) (file : Role) (bytes : List ℕ) (c : Content)
    → policies_content (read_list o file bytes) ≡ Ok c → IsReadFrom o c
of_policies o file bytes c is = by (read_list o file bytes) refl is where
  by : (found : Result PolicyList FileFault) → read_list o file bytes ≡ found → policies_content found ≡ Ok c
      → IsReadFrom o c
  by (Ok list) read e =
      let same : content.Policies list ≡ c = cc e in
      subst (IsReadFrom o) same (bytes, of_bytes o file bytes list read)
  by (Err f) read e = absurd (cc e)

enforced_is : (d : Disposition) → is_enforce d ≡ true → d ≡ Enforce
enforced_is Enforce is = refl
enforced_is Report is = absurd (cc is)

only_is_enforced : (ps : List Policy) (policy : Policy) → only_enforced ps ≡ Some policy
    → policy.disposition ≡ Enforce
only_is_enforced [] policy is = absurd (cc is)
only_is_enforced (one ∷ []) policy is = by (is_enforce one.disposition) refl is where
  by : (enforced : Bool) → is_enforce one.disposition ≡ enforced → cond enforced (Some one) None ≡ Some policy
      → policy.disposition ≡ Enforce
  by true so e =
      let same : one ≡ policy = cc e in
      subst (λ (p : Policy). p.disposition ≡ Enforce) same (enforced_is one.disposition so)
  by false so e = absurd (cc e)
only_is_enforced (one ∷ other ∷ ps) policy is = absurd (cc is)

of_required : (o : Origin) (file : Role) (found : Result PolicyList FileFault) (c : Content)
    → required_content file found ≡ Ok c → IsReadFrom o c
of_required o file (Err f) c is = absurd (cc is)
of_required o file (Ok list) c is = by (required_of list) refl is where
  by : (only : Option Policy) → required_of list ≡ only → policy_content file only ≡ Ok c → IsReadFrom o c
  by (Some policy) so e =
      let same : content.Required policy ≡ c = cc e in
      subst (IsReadFrom o) same (only_is_enforced list.policies policy so)
  by None so e = absurd (cc e)

of_response : (o : Origin) (file : Role) (bytes : List ℕ) (c : Content)
    → response_content bytes (read_list o file bytes) ≡ Ok c → IsReadFrom o c
of_response o file bytes c is = by (read_list o file bytes) refl is where
  by : (found : Result PolicyList FileFault) → read_list o file bytes ≡ found → response_content bytes found ≡ Ok c
      → IsReadFrom o c
  by (Ok list) read e =
      let same : content.Response bytes list ≡ c = cc e in
      subst (IsReadFrom o) same (of_bytes o file bytes list read)
  by (Err f) read e = absurd (cc e)

of_block : (o : Origin) (block : List ℕ) (found : Result PolicyList FileFault) (c : Content)
    → block_content block found ≡ Ok c → IsReadFrom o c
of_block o block (Ok list) c is = let same : content.Block block ≡ c = cc is in subst (IsReadFrom o) same tt
of_block o block (Err f) c is = absurd (cc is)

of_within : (o : Origin) (file : Role) (bytes : List ℕ) (c : Content) → read_within o file bytes ≡ Ok c
    → IsReadFrom o c
of_within o role.Policy bytes c is = of_policies o role.Policy bytes c is
of_within o role.Requests bytes c is =
    let same : content.Requests bytes ≡ c = cc is in subst (IsReadFrom o) same tt
of_within o role.Block bytes c is = of_block o bytes (read_list o role.Block bytes) c is
of_within o role.First bytes c is = of_policies o role.First bytes c is
of_within o role.Second bytes c is = of_policies o role.Second bytes c is
of_within o role.Proof bytes c is =
    let same : content.Proof bytes ≡ c = cc is in subst (IsReadFrom o) same tt
of_within o role.Required bytes c is = of_required o role.Required (read_list o role.Required bytes) c is
of_within o role.Response bytes c is = of_response o role.Response bytes c is
of_within o (role.List number) bytes c is = of_policies o (role.List number) bytes c is

of_start : (o : Origin) (file : Role) (start : Start) (c : Content) → found_of o file start ≡ Ok c → IsReadFrom o c
of_start o file start c is = by (nat_lt (file_limit file) (length start.bytes)) start.ended is where
  by : (long ended : Bool)
      → cond long (Err (file_fault file (cause.TooLarge limit.Bytes))) (cond ended (read_within o file start.bytes) (Err (file_fault file cause.Read))) ≡ Ok c
      → IsReadFrom o c
  by true ended e = absurd (cc e)
  by false true e = of_within o file start.bytes c e
  by false false e = absurd (cc e)

-- Files

then_all : (o : Origin) (one : Result Content FileFault) (rest : Result (List Content) FileFault) (contents : List Content)
    → then_found one rest ≡ Ok contents → ((c : Content) → one ≡ Ok c → IsReadFrom o c)
    → ((more : List Content) → rest ≡ Ok more → All (IsReadFrom o) more) → All (IsReadFrom o) contents
then_all o (Err f) rest contents is first later = absurd (cc is)
then_all o (Ok c) (Err f) contents is first later = absurd (cc is)
then_all o (Ok c) (Ok more) contents is first later =
    let same : c ∷ more ≡ contents = cc is in
    subst (All (IsReadFrom o)) same (All-cons (IsReadFrom o) c more (first c refl) (later more refl))

pub found_from : (o : Origin) (files : List File) (starts : List Start) (contents : List Content)
    → found_in o files starts ≡ Ok contents → All (IsReadFrom o) contents
found_from o [] starts contents is =
    let same : [] ≡ contents = cc is in subst (All (IsReadFrom o)) same (All-nil (IsReadFrom o))
found_from o (file ∷ files) [] contents is =
    let same : [] ≡ contents = cc is in subst (All (IsReadFrom o)) same (All-nil (IsReadFrom o))
found_from o (file ∷ files) (start ∷ starts) contents is =
    then_all o (found_of o file.role start) (found_in o files starts) contents is (of_start o file.role start)
    (found_from o files starts)

-- the first and the second of them
pub first_from : (o : Origin) (c : Content) (cs : List Content) → All (IsReadFrom o) (c ∷ cs) → IsReadFrom o c
first_from o c cs all = All-head (IsReadFrom o) c cs all

pub second_from : (o : Origin) (a b : Content) (cs : List Content) → All (IsReadFrom o) (a ∷ b ∷ cs)
    → IsReadFrom o b
second_from o a b cs all = All-head (IsReadFrom o) b cs (All-tail (IsReadFrom o) a (b ∷ cs) all)
