-- Examples of the definitions: texts of proofs, and proofs for an empty second list.
use Rattle.std.proofs.Common.{◌≡◌, refl, List, [], ◌∷◌}
use Rattle.std.specs.Prelude.{codes, Some, None}
use Rattle.std.specs.Fmt.{digits}
use Rattle.csp_model.specs.declared.policy.PolicyList.{PolicyList}
use Rattle.csp_model.specs.declared.url.Host.TheVariants.{Domain}
use Rattle.csp_facts.specs.declared.atom.Atom.TheVariants.{HostIs, PortIs}
use Rattle.csp_proof.specs.Accepts.{first_bad_node}
use Rattle.csp_proof.specs.Spelling.{proof_text}
use Rattle.csp_proof.specs.declared.proof.Body.TheVariants.{Nodes, Same}
use Rattle.csp_proof.specs.declared.proof.Format.TheVariants.{One, Two}
use Rattle.csp_proof.specs.declared.proof.Node.{Node}
use Rattle.csp_proof.specs.declared.proof.Node.TheVariants.{Split, Blocked, Met}
use Rattle.csp_proof.specs.declared.proof.Proof.{Proof}

abbrev no_policies : PolicyList
no_policies = record { policies = [] }

abbrev nodes : List Node
nodes = Split (HostIs (Domain (codes "a.example"))) ∷ Split (PortIs 443) ∷ Met ∷ Blocked 0 ∷ Blocked 0 ∷ []

abbrev shared : Proof
shared = record {
  format = Two;
  trees = record { shape = 38; policy = 0; line = 2; body = Nodes nodes } ∷ record { shape = 39; policy = 0; line = 8; body = Same 0 } ∷ [];
  last_line = 10;
}

shared_text : proof_text shared
    ≡ codes "csp-proof 2\ntree 38 0\nsplit host-is a.example\nsplit port-is 443\nmet\nblocked 0\nblocked 0\ntree 39 0\nsame 0\nend\n"
unfolding digits
shared_text = refl

-- where the second list has no policy, nothing is to be shown
abbrev empty : Proof
empty = record { format = One; trees = []; last_line = 2 }

empty_text : proof_text empty ≡ codes "csp-proof 1\nend\n"
empty_text = refl

empty_accepted : first_bad_node no_policies no_policies empty ≡ None
empty_accepted = refl

-- so a tree is left over
abbrev left_over : Proof
left_over = record { format = One; trees = record { shape = 0; policy = 0; line = 2; body = Nodes (Met ∷ []) } ∷ []; last_line = 4 }

left_over_refused : first_bad_node no_policies no_policies left_over ≡ Some 2
left_over_refused = refl
