use Rattle.std.proofs.Common.{◌≡◌, All, Ok, length, take}
use Rattle.csp_model.specs.Policies.{IsReadable}
use Rattle.csp_run.specs.Shown.{HasReadFiles, policies_of}
use Rattle.csp_run.specs.Words.{files_from}
use Rattle.csp_run.proofs.files.read_lists.Given as goal

abbrev pub invariant-loop-place : goal.invariant-loop-place
invariant-loop-place g l = record {
  read : HasReadFiles g.I.Inputs l.fn.inputs l.inputs l.origin (files_from 1 (take l.place l.names))
      (Ok (policies_of l.lists));
  many : length l.lists ≡ l.place;
  readable : All IsReadable l.lists;
}
