use Rattle.std.proofs.Common.{arith, ◌≡◌, take, ◌++◌, ◌∷◌, [], ◌+◌}
use Rattle.std.proofs.lemmas.Grind.{common_steps}
use Rattle.csp_token.proofs.HashSets.{no_text}
use Rattle.csp_token.proofs.IndexSteps.{with_word, with_nonce, with_hash, with_other}
use Rattle.csp_token.proofs.index.TokenIndex.new.Goals.{in-Word+in_ok-add-in-Word, in-Nonce+in_ok-insert-in-Nonce, in-Digest+in_ok-add-in-Digest+in_ok-add-in-Digest-2, in_default}
use Rattle.csp_token.proofs.index.TokenIndex.new.Goals as goal

pub loop-source-init : goal.loop-source-init
loop-source-init c = record {
  has_words = c.new-keywords.ensures;
  has_nonces = no_text c.new-nonces.result c.new-nonces.ensures.empty;
  has_pairs = c.new-pairs.ensures;
  has_digests = λ asked _. c.new-digests.ensures asked;
}

pub loop-source-preserved : goal.loop-source-preserved
loop-source-preserved c =
    let before = take c.loop-source.source-index c.as_slice-source-items.result.now in
    let more : take (c.loop-source.source-index + 1) c.as_slice-source-items.result.now ≡ before ++ c.source-item.result ∷ [] =
    grind (arith, common_steps) in
    let was = c.loop-source.invariant in
    elim c.match-source.branch [
      | in-Word+in_ok-add-in-Word w ↦
          rw (w.keywords-is, w.nonces-is, w.pairs-is, w.digests-is, more, w.in-Word.is)
          (with_word before c.loop-source.keywords c.loop-source.nonces c.loop-source.pairs c.loop-source.digests was
          w.in-Word.word w.add.new.self w.in_ok-add-in-Word.ensures)
      | in-Nonce+in_ok-insert-in-Nonce w ↦
          rw (w.keywords-is, w.nonces-is, w.pairs-is, w.digests-is, more, w.in-Nonce.is, ← w.as_str.ensures.text)
          (with_nonce before c.loop-source.keywords c.loop-source.nonces c.loop-source.pairs c.loop-source.digests was
          w.as_str.result w.insert.new.self w.in_ok-insert-in-Nonce.ensures.updates)
      | in-Digest+in_ok-add-in-Digest+in_ok-add-in-Digest-2 w ↦
          rw (w.keywords-is, w.nonces-is, w.pairs-is, w.digests-is, more, w.in-Digest.is)
          (with_hash before c.loop-source.keywords c.loop-source.nonces c.loop-source.pairs c.loop-source.digests was
          w.in-Digest.hash w.add-in-Digest.new.self w.add-in-Digest-2.new.self w.in_ok-add-in-Digest.ensures
          w.in_ok-add-in-Digest-2.ensures)
      | in_default w ↦
          rw (w.keywords-is, w.nonces-is, w.pairs-is, w.digests-is, more)
          (with_other before c.loop-source.keywords c.loop-source.nonces c.loop-source.pairs c.loop-source.digests was
          c.source-item.result w.in_default.not-Word w.in_default.not-Nonce w.in_default.not-Digest)
    ]
