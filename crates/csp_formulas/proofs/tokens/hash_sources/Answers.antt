use Rattle.std.proofs.Common.{arith, ◌≡◌, take, ◌++◌, ◌∷◌, [], ◌+◌, length, ◌≤◌}
use Rattle.std.proofs.lemmas.Grind.{common_steps}
use Rattle.std.proofs.lemmas.List.{take_all}
use Rattle.csp_model.specs.declared.source.Hash.{Hash}
use Rattle.csp_formulas.proofs.HashSources.{knows_hash, knows_other, knows_all}
use Rattle.csp_formulas.proofs.tokens.hash_sources.Goals.{in-Digest+in_ok-insert, in_default}
use Rattle.csp_formulas.proofs.tokens.hash_sources.Goals as goal

pub loop-source-preserved : goal.loop-source-preserved
loop-source-preserved c =
    let before = take c.loop-source.source-index c.args.sources.now in
    let more : take (c.loop-source.source-index + 1) c.args.sources.now ≡ before ++ c.source-item.result ∷ [] =
    grind (arith, common_steps) in
    elim c.match-source.branch [
      | in-Digest+in_ok-insert w ↦
          let gains = λ (g : Hash). w.in_ok-insert.ensures.updates.0 (record { ref_ptr = c.args.sources.ref_ptr; now = g }) in
          rw (w.hashes-is, more, w.in-Digest.is)
          (knows_hash c.loop-source.hashes w.insert.new.self before w.in-Digest.hash gains c.loop-source.invariant)
      | in_default w ↦
          rw (w.hashes-is, more) (knows_other c.loop-source.hashes before c.source-item.result w.in_default.not-Digest c.loop-source.invariant)
    ]

pub returns : goal.returns
returns c =
    let past : length c.args.sources.now ≤ c.loop-source.source-index = omega arith in
    knows_all c.loop-source.hashes c.args.sources.now (rw take_all at c.loop-source.invariant)
