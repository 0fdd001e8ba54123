-- What `learn` prints reads back to the learnt policy.
use Rattle.std.proofs.Common.{arith, ◌≡◌, sym, ap, refl, subst, ◌≤◌, Bool, true, false, List, ◌++◌, append_assoc, length, codes, All, Some, None, cond}
use Rattle.std.specs.Prelude.{nat_le}
use Rattle.std.specs.List.{flat_map}
use Rattle.csp_learn.specs.Allowed.{AllowsWhatIsNeeded}
use Rattle.csp_learn.specs.Logs.{checks_of, left_of}
use Rattle.csp_learn.specs.Needs.{need_limit, needs_of}
use Rattle.csp_learn.specs.Policies.{policy_for}
use Rattle.csp_learn.specs.Printed.{ReadsBack}
use Rattle.csp_learn.specs.declared.learnt.Place.{Place}
use Rattle.csp_learn.specs.declared.need.Need.{Need}
use Rattle.csp_learn.proofs.LogLaws.{checks_valid}
use Rattle.csp_model.specs.Policies.{policy_text}
use Rattle.csp_model.specs.Validity.{IsValidCheck, IsValidOrigin}
use Rattle.csp_model.specs.declared.check.Check.{Check}
use Rattle.csp_model.specs.declared.url.Origin.{Origin}
use Rattle.csp_model.specs.declared.verdict.Described.{Described}
use Rattle.csp_policy.specs.HeaderLines.{header_line}
use Rattle.csp_output.specs.Learnt.{IsLearntText, learning, learnt_output, learnt_text, left_line}
use Rattle.csp_output.specs.declared.built.Built.{Built}

abbrev pub Allows : Type 0
Allows = (logged : List Check) (origin : Origin) → All IsValidCheck logged → AllowsWhatIsNeeded logged (policy_for origin (needs_of logged))

abbrev pub Reads : Type 0
Reads = (logged : List Check) (origin : Origin) → IsValidOrigin origin → All IsValidCheck logged → length (needs_of logged) ≤ need_limit
    → ReadsBack origin (policy_for origin (needs_of logged))

begins : (origin : Origin) (needs : List Need) (left : List Place)
    → learnt_text (policy_for origin needs) left ≡ header_line (policy_for origin needs) ++ flat_map left_line left
begins origin needs left =
    ap (λ text. codes "Content-Security-Policy: " ++ text) (sym (append_assoc (policy_text (policy_for origin needs)) (codes "\n") (flat_map left_line left)))

pub text_reads_back : Allows → Reads → (origin : Origin) (log : List Described) (built : Built) → IsValidOrigin origin
    → All (λ (d : Described). All IsValidCheck d.checks) log → learning origin log ≡ Some built → IsLearntText origin log built.text
text_reads_back allows reads origin log built good valid is =
    go (nat_le (length (needs_of (checks_of log))) need_limit) refl is where
      go : (b : Bool) → nat_le (length (needs_of (checks_of log))) need_limit ≡ b
          → cond b (Some (learnt_output (policy_for origin (needs_of (checks_of log))) (left_of log))) None ≡ Some built → IsLearntText origin log built.text
      go true few is =
          let policy = policy_for origin (needs_of (checks_of log)) in
          let same : learnt_output policy (left_of log) ≡ built = cc in
          let each = checks_valid log valid in
          subst (λ (b : Built). IsLearntText origin log b.text) same (record {
            policy = policy;
            lines = begins origin (needs_of (checks_of log)) (left_of log);
            back = reads (checks_of log) origin good each (grind (arith, few));
            allows = allows (checks_of log) origin each;
          })
      go false many is = absurd (cc is)
