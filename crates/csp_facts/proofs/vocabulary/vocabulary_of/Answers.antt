-- Each source adds its hash where that is new, and all sources are those of both lists.
use Rattle.std.proofs.Common.{rules, Bor, ◌∙◌, ◌++◌, ◌∷◌, [], sym, ap, subst, refl}
use Rattle.std.specs.List.{filter_map}
use Rattle.std.proofs.lemmas.Iterator.{YieldsList-from_slice}
use Rattle.std.proofs.lemmas.Iterator.Adapters.{YieldsList-from_flat_map}
use Rattle.std.proofs.lemmas.Iterator.Consumers.{YieldsList-at, YieldsList-end, YieldsList-from_chain}
use Rattle.csp_model.specs.declared.policy.Directive.{Directive}
use Rattle.csp_model.specs.declared.policy.Policy.{Policy}
use Rattle.csp_model.specs.declared.source.Hash.{Hash}
use Rattle.csp_model.specs.declared.source.Source.{Source}
use Rattle.csp_facts.specs.Vocabulary.{hash_of_source, hashes_of, distinct}
use Rattle.csp_facts.proofs.VocabularyDistinct.{Contains-distinct}
use Rattle.csp_facts.proofs.VocabularySoFar.{SoFar, with_known, with_new}
use Rattle.csp_facts.proofs.VocabularySources.{found, found_none, found_some, in_both}
use Rattle.csp_facts.proofs.vocabulary.vocabulary_of.Goals as goal

pub loop-source-preserved-in_default : goal.loop-source-preserved-in_default
loop-source-preserved-in_default c =
    subst (SoFar c.loop-source.seen c.loop-source.hashes) (sym (found_none c.loop-source.yielded c.in-Some.source c.in_default.not-Digest)) c.loop-source.invariant

pub loop-source-preserved : goal.loop-source-preserved
loop-source-preserved c =
    let gains = λ (g : Hash). c.in_ok-insert.ensures.updates.0 (record { ref_ptr = c.in-Some.source.ref_ptr; now = g }) in
    subst (SoFar c.insert.new.self c.loop-source.hashes) (sym (found_some c.loop-source.yielded c.in-Some.source c.in-Digest.hash c.in-Digest.is))
    (with_known c.loop-source.seen c.insert.new.self c.loop-source.hashes (found c.loop-source.yielded) c.in-Digest.hash _ c.in_ok-insert.ensures.added c.if-branch.false gains c.loop-source.invariant)

pub loop-source-preserved-in_ok-push : goal.loop-source-preserved-in_ok-push
loop-source-preserved-in_ok-push c =
    let gains = λ (g : Hash). c.in_ok-insert.ensures.updates.0 (record { ref_ptr = c.in-Some.source.ref_ptr; now = g }) in
    let pushed = c.in_ok-push.ensures.ok ∙ ap (λ copy. c.loop-source.hashes ++ copy ∷ []) c.in_ok-copy.ensures in
    rw pushed
    (subst (SoFar c.insert.new.self (c.loop-source.hashes ++ c.in-Digest.hash ∷ [])) (sym (found_some c.loop-source.yielded c.in-Some.source c.in-Digest.hash c.in-Digest.is))
    (with_new c.loop-source.seen c.insert.new.self c.loop-source.hashes (found c.loop-source.yielded) c.in-Digest.hash _ c.in_ok-insert.ensures.added c.if-branch.true gains c.loop-source.invariant))

pub returns-clause-hashes : goal.returns-clause-hashes
returns-clause-hashes c =
    let all = YieldsList-end
    (YieldsList-at c.into_iter-source-iterator.ensures.into_iter_gives
    (YieldsList-from_flat_map {s = c.flat_map-source-items.result} _ _ _ (λ (s : Bor Source). s.now) (λ (d : Directive). d.sources) _ (λ x u q k. (refl, λ j b. YieldsList-from_slice x.now.sources (b.0 ∙ search rules)))
    (YieldsList-at c.flat_map-source-items.ensures.source
    (YieldsList-from_flat_map {s = c.flat_map-directives.result} _ _ _ (λ (d : Bor Directive). d.now) (λ (p : Policy). p.directives) _ (λ x u q k. (refl, λ j b. YieldsList-from_slice x.now.directives (b.0 ∙ search rules)))
    (YieldsList-at c.flat_map-directives.ensures.source
    (YieldsList-from_chain {s = c.chain-policies.result} (YieldsList-from_slice c.args.first.now.policies (cc)) (YieldsList-from_slice c.args.second.now.policies (cc)) c.chain-policies.ensures.first_done c.chain-policies.ensures.second_done))
    c.flat_map-directives.ensures.closure c.flat_map-directives.ensures.front c.flat_map-directives.ensures.back c.flat_map-directives.ensures.done))
    c.flat_map-source-items.ensures.closure c.flat_map-source-items.ensures.front c.flat_map-source-items.ensures.back c.flat_map-source-items.ensures.done))
    c.loop-source.yielded _ c.loop-source.yielded_by _ _ c.in-None.is c.next.ensures.steps
    in
    c.loop-source.invariant.firsts ∙ ap distinct (ap (filter_map hash_of_source) all.0 ∙ in_both c.args.first.now c.args.second.now)

pub returns-clause-each : goal.returns-clause-each
returns-clause-each c h = let whole = returns-clause-hashes c in rw whole (Contains-distinct (hashes_of c.args.first.now ++ hashes_of c.args.second.now) h)
