use Rattle.std.proofs.Common.{refl}
use Rattle.csp_token.proofs.HashSets.{with_sha256, with_sha384, with_sha512, with_none}
use Rattle.csp_token.proofs.hash_sets.DigestSets.add.Goals as goal

pub returns-in_ok-insert-in-Some-Sha256 : goal.returns-in_ok-insert-in-Some-Sha256
returns-in_ok-insert-in-Some-Sha256 c =
    let found = rw c.in-Some-Sha256.field-0-is at c.in-Some-Sha256.ensures in
    with_sha256 c.args.self.now c.args.hash.now c.in-Some-Sha256.digest found.digest.1 c.insert.new.self found.digest.0
    found.size c.in_ok-insert-in-Some-Sha256.ensures.updates

pub returns-in_ok-insert-in-Some-Sha384 : goal.returns-in_ok-insert-in-Some-Sha384
returns-in_ok-insert-in-Some-Sha384 c =
    let found = rw c.in-Some-Sha384.field-0-is at c.in-Some-Sha384.ensures in
    with_sha384 c.args.self.now c.args.hash.now c.in-Some-Sha384.digest found.digest.1 c.insert-in-Some-Sha384.new.self
    found.digest.0 found.size c.in_ok-insert-in-Some-Sha384.ensures.updates

pub returns-in_ok-insert-in-Some-Sha512 : goal.returns-in_ok-insert-in-Some-Sha512
returns-in_ok-insert-in-Some-Sha512 c =
    let found = rw c.in-Some-Sha512.field-0-is at c.in-Some-Sha512.ensures in
    with_sha512 c.args.self.now c.args.hash.now c.in-Some-Sha512.digest found.digest.1 c.insert-in-Some-Sha512.new.self
    found.digest.0 found.size c.in_ok-insert-in-Some-Sha512.ensures.updates

pub returns-in-None : goal.returns-in-None
returns-in-None c = with_none c.args.self.now c.args.hash.now (c.in-None.ensures.none refl)
