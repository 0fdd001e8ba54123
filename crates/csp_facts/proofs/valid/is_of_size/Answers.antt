use Rattle.std.proofs.Common.{arith}
use Rattle.std.proofs.lemmas.Bool.Decides.{nat_tests}
use Rattle.csp_model.proofs.ByteTests.{bytes_are}
use Rattle.csp_facts.proofs.valid.is_of_size.Goals as goal

pub returns : goal.returns
returns c = ((λ same. (grind (arith, nat_tests), bytes_are c.args.bytes.now (λ i. (c.type_inv.bytes i).fits))), (λ sized. let long = sized.0 in grind (arith, nat_tests)))
