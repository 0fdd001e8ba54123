use Rattle.std.proofs.Common.{arith, sym, subst, ◌≤◌, length, Bor, List, map}
use Rattle.std.proofs.lemmas.List.{append-nil, length_push, take_all}
use Rattle.std.proofs.lemmas.Slice.Zip.{AllZip-long, zip_end, zip_turn}
use Rattle.csp_model.specs.declared.source.Source.{Source}
use Rattle.csp_formula.specs.Sentences.{any_of}
use Rattle.csp_formula.specs.Sources.{source_sentence}
use Rattle.csp_answer.specs.Asking.{AmountTo}
use Rattle.csp_answer.specs.Naming.{IsSourceNamed}
use Rattle.csp_answer.specs.declared.naming.SourceNames.{SourceNames}
use Rattle.csp_answer.proofs.ListedSoFar.{at_turn, listed_more}
use Rattle.csp_answer.proofs.listed.list_conjunctions.Goals as goal

pub source_conjunction-requires-clause-source : goal.source_conjunction-requires-clause-source
source_conjunction-requires-clause-source c =
    let list = c.args.list in
    let pair : Bor Source × Bor SourceNames = (c.in-Some.source, c.in-Some.named) in
    let t = zip_turn list.sources.now list.names.now c.loop-source.yielded c.into_iter-source-iterator.result c.loop-source.source-iterator c.next.new.self c.next.result
    (cc) (cc) c.loop-source.yielded_by pair c.in-Some.is c.next.ensures.steps in
    at_turn (IsSourceNamed c.args.names.now list.origin.now) list.sources.now list.names.now (length c.loop-source.yielded) c.in-Some.source.now c.in-Some.named.now
    c.requires.sources t.0 t.1 (t.2 c.in-Some.source.now) (t.3 c.in-Some.named.now)

pub loop-source-preserved-in-Continue-1 : goal.loop-source-preserved-in-Continue-1
loop-source-preserved-in-Continue-1 c =
    let list = c.args.list in
    let pair : Bor Source × Bor SourceNames = (c.in-Some.source, c.in-Some.named) in
    let t = zip_turn list.sources.now list.names.now c.loop-source.yielded c.into_iter-source-iterator.result c.loop-source.source-iterator c.next.new.self c.next.result
    (cc) (cc) c.loop-source.yielded_by pair c.in-Some.is c.next.ensures.steps in
    listed_more c.args.names.now (source_sentence list.origin.now c.args.shape) list.sources.now _ (length c.loop-source.yielded) c.in-Some.source.now
    c.loop-source.conjunctions.items _ c.push.new.self.items (length_push c.loop-source.yielded pair) t.0 (t.2 c.in-Some.source.now)
    c.loop-source.invariant c.in-Some-source_conjunction.ensures c.in_ok-push.ensures.items

pub loop-source-preserved : goal.loop-source-preserved
loop-source-preserved c =
    let list = c.args.list in
    let pair : Bor Source × Bor SourceNames = (c.in-Some.source, c.in-Some.named) in
    let t = zip_turn list.sources.now list.names.now c.loop-source.yielded c.into_iter-source-iterator.result c.loop-source.source-iterator c.next.new.self c.next.result
    (cc) (cc) c.loop-source.yielded_by pair c.in-Some.is c.next.ensures.steps in
    listed_more c.args.names.now (source_sentence list.origin.now c.args.shape) list.sources.now _ (length c.loop-source.yielded) c.in-Some.source.now
    c.loop-source.conjunctions.items _ c.loop-source.conjunctions.items (length_push c.loop-source.yielded pair) t.0 (t.2 c.in-Some.source.now)
    c.loop-source.invariant c.in_default.ensures (sym (append-nil c.loop-source.conjunctions.items))

pub returns : goal.returns
returns c =
    let list = c.args.list in
    let e = zip_end list.sources.now list.names.now c.loop-source.yielded c.into_iter-source-iterator.result c.loop-source.source-iterator c.next.new.self c.next.result
    (cc) (cc) c.loop-source.yielded_by c.in-None.is c.next.ensures.steps in
    let same = AllZip-long (IsSourceNamed c.args.names.now list.origin.now) list.sources.now list.names.now c.requires.sources in
    let past : length list.sources.now ≤ length c.loop-source.yielded = omega arith in
    subst (λ (ss : List Source). AmountTo c.args.names.now (any_of (map (source_sentence list.origin.now c.args.shape) ss)) c.loop-source.conjunctions.items)
    (take_all (length c.loop-source.yielded) list.sources.now past) c.loop-source.invariant
