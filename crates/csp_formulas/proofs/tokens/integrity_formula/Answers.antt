use Rattle.std.proofs.Common.{arith, ◌≡◌, ◌∙◌, ap, sym, drop, ◌∷◌, ◌+◌, length, ◌≤◌, map}
use Rattle.std.specs.List.{list_any}
use Rattle.std.proofs.lemmas.Grind.{common_steps}
use Rattle.std.proofs.lemmas.List.{drop_all}
use Rattle.csp_model.specs.DecideTokens.{is_hash}
use Rattle.csp_model.specs.declared.source.Hash.{Hash}
use Rattle.csp_facts.specs.declared.atom.Atom.TheVariants.{IntegrityHas, IntegrityOutside}
use Rattle.csp_formula.specs.Sentences.{Not, Fact}
use Rattle.csp_formula.specs.Compiled.{other_hashes}
use Rattle.csp_formulas.proofs.HashSources.{denied, one_denied, one_own, integrity_made}
use Rattle.csp_formulas.proofs.tokens.integrity_formula.Goals.{then-not-contains+in_ok-copy+in_ok-denial-2+in_ok-push, else-not-contains}
use Rattle.csp_formulas.proofs.tokens.integrity_formula.Goals as goal

pub loop-hash-preserved : goal.loop-hash-preserved
loop-hash-preserved c =
    let hash = c.hash-item.result in
    let hashes = c.args.hashes.now in
    let sources = c.args.sources.now in
    let i = c.loop-hash.hash-index in
    let whole = Not (Fact IntegrityOutside) ∷ map denied (other_hashes hashes sources) in
    let front : drop i hashes ≡ hash ∷ drop (i + 1) hashes = grind (arith, common_steps) in
    let known : c.contains.result ≡ list_any (is_hash hash) sources = c.contains.ensures ∙ c.in_ok-own.ensures hash in
    elim c.if-not-contains.branch [
      | then-not-contains+in_ok-copy+in_ok-denial-2+in_ok-push w ↦
          let out = sym known ∙ w.if-not-contains.true in
          let says = w.in_ok-denial-2.ensures ∙ ap (λ (h : Hash). Not (Fact (IntegrityHas h))) w.in_ok-copy.ensures in
          rw (w.parts-is, w.in_ok-push.ensures.items)
          (one_denied c.loop-hash.parts.items w.in_ok-denial-2.field-0 hash (drop i hashes) (drop (i + 1) hashes) sources whole front says out c.loop-hash.invariant)
      | else-not-contains w ↦
          let own = sym known ∙ w.if-not-contains.false in
          rw w.parts-is (one_own c.loop-hash.parts.items hash (drop i hashes) (drop (i + 1) hashes) sources whole front own c.loop-hash.invariant)
    ]

pub returns : goal.returns
returns c =
    let hashes = c.args.hashes.now in
    let past : length hashes ≤ c.loop-hash.hash-index = omega arith in
    integrity_made c.push-2.new.self c.loop-hash.parts.items c.in_ok-pairs_formula.field-0 hashes (drop c.loop-hash.hash-index hashes) c.args.sources.now
    c.in_ok-push-2.ensures.items (drop_all c.loop-hash.hash-index hashes past) c.in_ok-pairs_formula.ensures c.loop-hash.invariant
