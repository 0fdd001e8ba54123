-- What commands make of the requests of a file, one after the other.
use Rattle.std.specs.Prelude.{false, List, map}
use Rattle.std.specs.List.{list_any}
use Rattle.csp_model.specs.Verdict.{verdict_of}
use Rattle.csp_model.specs.declared.policy.PolicyList.{PolicyList}
use Rattle.csp_model.specs.declared.verdict.Described.{Described}
use Rattle.csp_model.specs.declared.verdict.Verdict.{Verdict}
use Rattle.csp_output.specs.Lines.{lines_from}
use Rattle.csp_output.specs.Explanations.{Explained, explained_from, is_blocked}
use Rattle.csp_request.specs.declared.texts.ReportTexts.TheVariants.{Empty}
use Rattle.csp_request.specs.declared.wanted.Wanted.{Wanted}
use Rattle.csp_output.specs.declared.judge_output.Judging.{Judging}

abbrev pub verdicts_on : PolicyList → List Described → List Verdict
verdicts_on list requests = map (verdict_of list) (map (λ (d : Described). d.checks) requests)

-- these requests, judged
abbrev pub judging_of : PolicyList → List Described → Judging
judging_of list requests = record {
  list = list;
  lines = lines_from 1 (verdicts_on list requests);
  blocked = list_any (λ (v : Verdict). v.blocked) (verdicts_on list requests);
}

-- these requests, explained
abbrev pub explained_of : PolicyList → List Described → Explained
explained_of list requests = record {
  list = list;
  blocked = list_any (is_blocked list) requests;
  text = explained_from 1 list requests;
}

-- nothing but what fetches tell
abbrev pub wanted_to_learn : Wanted
wanted_to_learn = record { digests = record { sha256 = false; sha384 = false; sha512 = false }; texts = Empty }
