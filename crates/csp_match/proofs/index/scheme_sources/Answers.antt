use Rattle.std.proofs.Common.{◌∙◌, sym, ap, List, ℕ, ◌++◌, ◌∷◌, [], Bor}
use Rattle.std.proofs.lemmas.List.{map-append}
use Rattle.csp_match.specs.Split.{scheme_part}
use Rattle.csp_match.proofs.SplitLaws.{with_one, with_none}
use Rattle.csp_match.proofs.index.scheme_sources.Goals.{in-Some+in_ok-push, in_default}
use Rattle.csp_match.proofs.index.scheme_sources.Goals as goal

pub loop-source-preserved : goal.loop-source-preserved
loop-source-preserved c =
    let sources = c.args.sources.now in
    let i = c.loop-source.source-index in
    let text = λ (t : Bor (List ℕ)). t.now in
    elim c.match-scheme_source.branch [
      | in-Some+in_ok-push w ↦
          let scheme = w.in-Some.scheme in
          let one = with_one scheme_part sources i c.source-item.result c.loop-source-test.true c.source-item.is scheme.now (sym w.in-Some.ensures) in
          rw (w.made-is, w.in_ok-push.ensures.items)
          (map-append text c.loop-source.made.items (scheme ∷ []) ∙ (ap (λ (xs : List (List ℕ)). xs ++ scheme.now ∷ []) c.loop-source.invariant ∙ sym one))
      | in_default w ↦ rw w.made-is (c.loop-source.invariant ∙ sym (with_none scheme_part sources i c.source-item.result c.loop-source-test.true c.source-item.is (sym w.in_default.ensures)))
    ]
