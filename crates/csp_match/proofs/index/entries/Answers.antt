use Rattle.std.proofs.Common.{◌∙◌, sym, ap, List, ◌++◌, ◌∷◌, []}
use Rattle.std.proofs.lemmas.List.{map-append}
use Rattle.std.proofs.lemmas.List.Elements.{All-push}
use Rattle.csp_match.specs.Entries.{entry_parts, IsEntry}
use Rattle.csp_match.specs.Keys.{parts_of, Parts}
use Rattle.csp_match.proofs.SplitLaws.{with_one, with_none}
use Rattle.csp_match.proofs.index.entries.Goals.{in-Some+in_ok-push, in_default}
use Rattle.csp_match.proofs.index.entries.Goals as goal

pub loop-source-preserved : goal.loop-source-preserved
loop-source-preserved c =
    let sources = c.args.sources.now in
    let i = c.loop-source.source-index in
    elim c.match-host_source.branch [
      | in-Some+in_ok-push w ↦
          let entry = w.in-Some.entry in
          let one = with_one parts_of sources i c.source-item.result c.loop-source-test.true c.source-item.is (entry_parts entry) (sym w.in-Some.ensures.parts) in
          rw (w.made-is, w.in_ok-push.ensures.items) (record {
            parts = map-append entry_parts c.loop-source.made.items (entry ∷ [])
                ∙ (ap (λ (xs : List Parts). xs ++ entry_parts entry ∷ []) c.loop-source.invariant.parts ∙ sym one);
            each = All-push IsEntry c.loop-source.made.items entry c.loop-source.invariant.each w.in-Some.ensures.entry;
          })
      | in_default w ↦
          rw w.made-is (record {
            parts = c.loop-source.invariant.parts
                ∙ sym (with_none parts_of sources i c.source-item.result c.loop-source-test.true c.source-item.is (sym w.in_default.ensures.parts));
            each = c.loop-source.invariant.each;
          })
    ]
