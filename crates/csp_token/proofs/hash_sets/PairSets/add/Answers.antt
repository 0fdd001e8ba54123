use Rattle.csp_model.specs.declared.source.Algorithm.TheVariants.{Sha256, Sha384, Sha512}
use Rattle.csp_token.proofs.HashSets.{with_pair}
use Rattle.csp_token.proofs.hash_sets.PairSets.add.Goals as goal

pub returns-in_ok-insert-in-Sha256 : goal.returns-in_ok-insert-in-Sha256
returns-in_ok-insert-in-Sha256 c =
    with_pair Sha256 c.args.self.now c.insert.new.self c.args.pair.now c.as_str-value.result c.in-Sha256.is
    c.as_str-value.ensures.text c.in_ok-insert-in-Sha256.ensures.updates

pub returns-in_ok-insert-in-Sha384 : goal.returns-in_ok-insert-in-Sha384
returns-in_ok-insert-in-Sha384 c =
    with_pair Sha384 c.args.self.now c.insert-in-Sha384.new.self c.args.pair.now c.as_str-value.result c.in-Sha384.is
    c.as_str-value.ensures.text c.in_ok-insert-in-Sha384.ensures.updates

pub returns-in_ok-insert-in-Sha512 : goal.returns-in_ok-insert-in-Sha512
returns-in_ok-insert-in-Sha512 c =
    with_pair Sha512 c.args.self.now c.insert-in-Sha512.new.self c.args.pair.now c.as_str-value.result c.in-Sha512.is
    c.as_str-value.ensures.text c.in_ok-insert-in-Sha512.ensures.updates
