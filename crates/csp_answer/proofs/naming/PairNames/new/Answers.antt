use Rattle.std.proofs.Common.{◌≡◌, ◌+◌, ◌∙◌, sym, ap, subst, ℕ, List, Some, Contains, map, take}
use Rattle.std.specs.Prelude.{slice_get}
use Rattle.csp_model.specs.declared.source.Hash.{Hash}
use Rattle.csp_facts.specs.declared.atom.Atom.TheVariants.{IntegrityHas}
use Rattle.csp_answer.proofs.Named.{has_outside, has_pair, one_pair}
use Rattle.csp_answer.proofs.naming.PairNames.new.Goals as goal

pub name_of-requires : goal.name_of-requires
name_of-requires c =
    let names = c.args.names.now in
    subst (λ (h : Hash). Contains names (IntegrityHas h)) (sym c.in_ok-copy.ensures)
    (has_pair names c.args.hashes.now c.requires c.loop-hash.hash-index c.hash-item.result c.loop-hash-test.true c.hash-item.is)

pub loop-hash-preserved : goal.loop-hash-preserved
loop-hash-preserved c =
    let names = c.args.names.now in
    let hashes = c.args.hashes.now in
    let i = c.loop-hash.hash-index in
    subst (λ (ps : List ℕ). map (slice_get names) ps ≡ map (λ (h : Hash). Some (IntegrityHas h)) (take (i + 1) hashes)) (sym {A = List ℕ} c.in_ok-push.ensures.items)
    (one_pair names hashes c.loop-hash.pairs.items c.name_of.result i c.hash-item.result c.loop-hash-test.true c.hash-item.is c.loop-hash.invariant
    (c.name_of.ensures ∙ ap (λ (h : Hash). Some (IntegrityHas h)) c.in_ok-copy.ensures))

pub name_of-requires-2 : goal.name_of-requires-2
name_of-requires-2 c = has_outside c.args.names.now c.args.hashes.now c.requires
