use Rattle.std.proofs.Common.{refl}
use Rattle.csp_token.proofs.Sizes.{of_size}
use Rattle.csp_request.proofs.inline.slice_is_bytes.Goals as goal

pub returns : goal.returns
returns c = of_size _ c.args.slice.now refl (λ i. (c.type_inv.slice i).fits)
