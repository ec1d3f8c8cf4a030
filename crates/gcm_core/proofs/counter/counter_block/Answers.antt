use Rattle.std.proofs.Common.{◌++◌, ◌∙◌, refl}
use Rattle.gcm_core.proofs.KeyStream.{put_counter}
use Rattle.gcm_core.proofs.counter.counter_block.Goals as goal

pub returns : goal.returns
returns c =
    let iv = c.copy_from_slice.ensures.after in
    let count = c.copy_from_slice-2.ensures.after ∙ c.to_be_bytes.ensures in
    put_counter c.copy_from_slice.new.self _ c.copy_from_slice-2.new.self c.copy_from_slice.ensures.len refl
    ∙ (λ i. iv i ++ count i)
