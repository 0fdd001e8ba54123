use Rattle.std.proofs.Common.{List, ap, refl, subst, codes, ◌++◌, All}
use Rattle.std.specs.List.{flat_map}
use Rattle.csp_model.specs.declared.policy.Policy.{Policy}
use Rattle.csp_policy.specs.HeaderLines.{header_lines}
use Rattle.csp_proof.specs.Spelling.{proof_text}
use Rattle.csp_tidy.specs.declared.tidying.Needed.{Needed}
use Rattle.csp_output.specs.Tidyings.{IsReadBack, reason_text}
use Rattle.csp_output.proofs.Reasons.{written}
use Rattle.csp_output.proofs.tidy_output.tidy.Goals as goal

pub returns : goal.returns
returns c =
    let tidied = c.in_ok-tidied.tidied in
    record {
      tidied = tidied;
      is = c.in_ok-tidied.ensures;
      read_back = subst (All IsReadBack) c.as_slice-2.ensures c.in_ok-push_reasons.ensures.read_back;
      status = refl;
      text = written (codes "tidied\n") (header_lines tidied.list.policies) (header_lines c.as_slice.result.now)
          (flat_map (reason_text tidied.list) tidied.needed)
          (flat_map (reason_text tidied.list) c.as_slice-2.result.now)
          (codes "input to output\n" ++ proof_text tidied.forward)
          (codes "output to input\n" ++ proof_text tidied.backward) c.in_ok-text.text.items
          c.push_headers.new.text.items c.push_reasons.new.text.items c.push_proof.new.text.items
          c.push_proof-2.new.text.items c.from_vec.result c.in_ok-text.ensures.items
          (ap (λ (ps : List Policy). header_lines ps) c.as_slice.ensures) c.in_ok-push_headers.ensures
          (ap (λ (ns : List Needed). flat_map (reason_text tidied.list) ns) c.as_slice-2.ensures)
          c.in_ok-push_reasons.ensures.text c.in_ok-push_proof.ensures c.in_ok-push_proof-2.ensures
          c.from_vec.ensures;
    }
