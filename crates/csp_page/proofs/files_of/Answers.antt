use Rattle.std.proofs.Common.{◌≡◌, ℕ, List, [], ◌∷◌, ◌++◌, Bor, map, take, get_or, sym, ◌∙◌, arith, rules}
use Rattle.std.proofs.lemmas.List.{map_more}
use Rattle.csp_page.specs.declared.File.{File}
use Rattle.std.proofs.lemmas.Result.{err_from_is_err_and}
use Rattle.csp_page.specs.Page.{file_of, name_of}
use Rattle.csp_page.proofs.Due.{good_more, none_bad, some_bad}
use Rattle.csp_page.proofs.files_of.Goals as goal

pub returns-in_err-text_of-clause-bad : goal.returns-in_err-text_of-clause-bad
returns-in_err-text_of-clause-bad c = λ same.
    let p = err_from_is_err_and c.from_residual.result c.from_residual.ensures.1 in
    some_bad name_of _ c.loop-file.file-index _ c.loop-file-test.true
    (c.in_err-text_of.ensures.bad (cc (same, p.1, p.2)))

pub loop-file-preserved : goal.loop-file-preserved
loop-file-preserved c = record {
  made =
      let nothing : Bor (List ℕ) = record { ref_ptr = (0, 0); now = [] } in
      let none : File = record { name = nothing; bytes = nothing } in
      let grew : c.push.new.self ≡ map file_of (take c.loop-file.file-index c.args.files.now) ++ file_of (get_or c.args.files.now c.loop-file.file-index none) ∷ [] =
      search (rules, c.in_ok-push.ensures.ok, c.in_ok-text_of.ensures.text, c.in_ok-new.ensures, c.loop-file.invariant.made, c.loop-file-test.true) in
      grew ∙ sym (map_more file_of c.args.files.now c.loop-file.file-index none c.loop-file-test.true);
  good = good_more name_of _ _ _ c.loop-file-test.true c.loop-file.invariant.good c.in_ok-text_of.ensures.good;
}

pub returns-clause-good : goal.returns-clause-good
returns-clause-good c = none_bad name_of _ c.loop-file.file-index (omega (arith, c.loop-file-test.false)) c.loop-file.invariant.good
