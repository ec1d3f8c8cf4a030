use Rattle.std.proofs.Common.{◌≡◌, ℕ, List, length, map, refl, ap, arith, slice_get, sum, Some}
use Rattle.std.proofs.lemmas.Option.{slice_get_read}
use Rattle.lan_core.proofs.LightFrames.{one-of-all}
use Rattle.lan_core.proofs.air.Air.frame.Goals as goal

pub returns-clause-light : goal.returns-clause-light
returns-clause-light c =
    let frames = c.deref.result.now in
    let frame = c.in_ok-frame.frame.now in
    let looked = c.in_ok-frame.ensures.lookup in
    let there : slice_get frames c.in_ok-place.place ≡ Some frame =
    slice_get_read frames (length frames) c.in_ok-place.place frame refl looked.3.0 looked.1 in
    let one = one-of-all frames c.in_ok-place.place frame there in
    let all = ap (λ (fs : List (List ℕ)). sum (map length fs)) c.deref.ensures.value in
    let same = ap length c.as_slice.ensures.value in
    let light = c.self.invariant.within.light in
    omega (arith, one, all, same, light)
