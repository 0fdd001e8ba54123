use Rattle.std.proofs.Common.{◌∙◌, ◌∷◌, ◌++◌, [], Some, ap}
use Rattle.std.specs.Prelude.{IfSome}
use Rattle.std.specs.List.{filter_map}
use Rattle.std.proofs.lemmas.List.Elements.{All-push}
use Rattle.std.proofs.lemmas.Iterator.Consumers.{YieldsList-at, YieldsList-end}
use Rattle.csp_model.specs.Validity.{IsIntegrityValue}
use Rattle.csp_token.specs.Types.{Hash}
use Rattle.csp_token.specs.Integrity.{hash_of_token}
use Rattle.csp_token.proofs.PairsOfTokens.{dropped, kept}
use Rattle.csp_token.proofs.Words.{YieldsList-words, solid}
use Rattle.csp_token.proofs.integrity.read_integrity.Goals as goal

pub read_token-requires : goal.read_token-requires
read_token-requires c = solid c.in-Some.token.now c.in-Some.ensures.steps.1

pub loop-token-preserved-in-Continue-branch-3 : goal.loop-token-preserved-in-Continue-branch-3
loop-token-preserved-in-Continue-branch-3 c = record {
  pairs =
      c.in_ok-push.ensures.ok ∙ ap (λ pairs. pairs ++ c.in-Some-2.pair ∷ []) c.loop-token.invariant.pairs
      ∙ kept c.loop-token.yielded c.in-Some.token c.in_ok-pair.field-0 c.in-Some-2.pair c.in_ok-pair.ensures.pair
      c.in-Some-2.is;
  valid =
      let valid : IfSome (Some c.in-Some-2.pair) (λ h. IsIntegrityValue h.value) =
      rw c.in-Some-2.is at c.in_ok-pair.ensures.valid in
      rw c.in_ok-push.ensures.ok
      (All-push (λ (h : Hash). IsIntegrityValue h.value) c.loop-token.pairs c.in-Some-2.pair
      c.loop-token.invariant.valid valid);
}

pub loop-token-preserved : goal.loop-token-preserved
loop-token-preserved c = record {
  pairs =
      c.loop-token.invariant.pairs
      ∙ dropped c.loop-token.yielded c.in-Some.token c.in_ok-pair.field-0 c.in_ok-pair.ensures.pair c.in_default.is;
  valid = c.loop-token.invariant.valid;
}

pub returns-clause-pairs : goal.returns-clause-pairs
returns-clause-pairs c =
    let words =
    YieldsList-words {s = c.split_ascii_whitespace-token-items.result} c.args.text.now
    c.split_ascii_whitespace-token-items.ensures.text in
    let items =
    YieldsList-at {s = c.into_iter-token-iterator.result} {t = c.split_ascii_whitespace-token-items.result}
    c.into_iter-token-iterator.ensures.into_iter_gives words in
    let all =
    YieldsList-end items c.loop-token.yielded c.loop-token.token-iterator c.loop-token.yielded_by c.next.result
    c.next.new.self c.in-None.is c.next.ensures.steps in
    c.loop-token.invariant.pairs ∙ ap (filter_map hash_of_token) all.0
