use Rattle.std.proofs.Common.{refl, ◌∙◌, inl, inr}
use denote.Param.Object.{read_made}
use Rattle.csp_page.proofs.Due.{given, missing, still_missing, two}
use Rattle.csp_page.proofs.run_words.OwnLists.{own-1}
use Rattle.csp_page.proofs.run_words.Goals as goal

pub returns : goal.returns
returns c =
    given _ _ _ c.run-status.result _ _ _ _ _ _ _ _ _ _ c.exit_code.ensures c.run-status.ensures.written
    c.run-status.ensures.prefix c.run-status.ensures.write_fault c.run-status.ensures.refused
    (record {
      begun = c.in_ok-sink.ensures.taken;
      calm = c.in_ok-sink.ensures.faults;
      now_is = c.bytes.ensures.bytes;
      full = c.bytes.ensures.full;
      copied = c.in_ok-new-3.ensures;
    })
    (record {
      files = λ n. refl;
      failed = λ n rose. missing _ _ _ _ (c.run-status.ensures.contents n) rose;
      missing = still_missing _ _ _ _ c.run-status.ensures.contents c.run-status.new.inputs.files.missing;
      kinds = two _ _ _ _ _ _ _ _ c.new-desk.ensures.items c.in_ok-push.ensures.items c.in_ok-push-2.ensures.items
          (read_made own-1 _ (inl tt) refl _ (λ j w. j.1.kind w) _ _ _ c.into_dyn_box.ensures.1)
          (read_made own-1 _ (inr (inl tt)) refl _ (λ j w. j.1.kind w) _ _ _ c.into_dyn_box-in_ok-new-2.ensures.1);
      may_refuse = two _ _ _ _ _ _ _ _ c.new-desk.ensures.items c.in_ok-push.ensures.items
          c.in_ok-push-2.ensures.items
          (read_made own-1 _ (inl tt) refl _ (λ j w. j.1.may_refuse w) _ _ _ c.into_dyn_box.ensures.1)
          (read_made own-1 _ (inr (inl tt)) refl _ (λ j w. j.1.may_refuse w) _ _ _ c.into_dyn_box-in_ok-new-2.ensures.1);
      held = two _ _ _ _ _ _ _ _ c.new-desk.ensures.items c.in_ok-push.ensures.items c.in_ok-push-2.ensures.items
          (read_made own-1 _ (inl tt) refl _ (λ j w. j.1.held w) _ _ _ c.into_dyn_box.ensures.1
          ∙ (c.in_ok-new.ensures.ok ∙ c.new.ensures.held))
          (read_made own-1 _ (inr (inl tt)) refl _ (λ j w. j.1.held w) _ _ _ c.into_dyn_box-in_ok-new-2.ensures.1
          ∙ (c.in_ok-new-2.ensures.ok ∙ c.new-3.ensures.held));
    })
