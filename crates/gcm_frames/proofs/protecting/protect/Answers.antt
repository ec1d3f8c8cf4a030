use Rattle.std.proofs.Common.{◌≡◌, ℕ, List, ◌++◌, length, take, drop, ap, sym, ◌∙◌, arith, length-append}
use Rattle.std.proofs.lemmas.List.{with_items_is}
use Rattle.std.specs.Vec.{with_items}
use Rattle.gcm_frames.specs.Protected.{head_octets, iv, sealed_octets}
use Rattle.gcm_frames.proofs.Sealing.{sealed_behind}
use Rattle.gcm_frames.proofs.protecting.protect.Goals as goal

pub put_head-requires : goal.put_head-requires
put_head-requires c =
    record { enough = omega (arith, c.head_len-head.ensures.value c.args.an c.args.pn c.args.conf c.args.user.now.body, c.head_len-head.ensures.fixed, c.requires.room) }

pub put-requires : goal.put-requires
put-requires c =
    let head : List ℕ = head_octets c.args.sci c.args.an c.args.pn c.args.conf c.args.user.now in
    let count : length head ≡ 28 = sym (c.head_len-head.ensures.value c.args.an c.args.pn c.args.conf c.args.user.now.body) ∙ c.head_len-head.ensures.fixed in
    record { enough = omega (arith, c.requires.room, ap length c.put_head.ensures.items, c.put_head.ensures.capacity, ap length c.as_slice.ensures.value, length-append c.args.into.now.items head) }

pub seal_in_place-check-requires-clause-head : goal.seal_in_place-check-requires-clause-head
seal_in_place-check-requires-clause-head c =
    let head : List ℕ = head_octets c.args.sci c.args.an c.args.pn c.args.conf c.args.user.now in
    let count : length head ≡ 28 = sym (c.head_len-head.ensures.value c.args.an c.args.pn c.args.conf c.args.user.now.body) ∙ c.head_len-head.ensures.fixed in
    omega (arith, c.len-start.ensures, c.split_at_mut-frame.ensures.back_len, ap length c.deref_mut.ensures.value, ap length c.put.ensures.items, ap length c.put_head.ensures.items, length-append c.put_head.new.into.items c.as_slice.result.now, length-append c.args.into.now.items head)

pub seal_in_place-check-requires-clause-most : goal.seal_in_place-check-requires-clause-most
seal_in_place-check-requires-clause-most c =
    let head : List ℕ = head_octets c.args.sci c.args.an c.args.pn c.args.conf c.args.user.now in
    let count : length head ≡ 28 = sym (c.head_len-head.ensures.value c.args.an c.args.pn c.args.conf c.args.user.now.body) ∙ c.head_len-head.ensures.fixed in
    omega (arith, c.requires.user.1, c.len-start.ensures, c.split_at_mut-frame.ensures.back_len, ap length c.deref_mut.ensures.value, ap length c.put.ensures.items, ap length c.put_head.ensures.items, ap length c.as_slice.ensures.value, length-append c.put_head.new.into.items c.as_slice.result.now, length-append c.args.into.now.items head)

pub put-requires-2 : goal.put-requires-2
put-requires-2 c =
    let head : List ℕ = head_octets c.args.sci c.args.an c.args.pn c.args.conf c.args.user.now in
    let count : length head ≡ 28 = sym (c.head_len-head.ensures.value c.args.an c.args.pn c.args.conf c.args.user.now.body) ∙ c.head_len-head.ensures.fixed in
    let whole : List ℕ = c.split_at_mut-frame.result.0.now ++ c.seal_in_place-check.new.frame in
    let long : length whole ≡ c.put.new.into.len =
    omega (arith, c.put.new.into.ok.0, c.split_at_mut-frame.ensures.back_len, c.split_at_mut-frame.ensures.front_len, c.seal_in_place-check.auto.frame, ap length c.deref_mut.ensures.value, length-append c.split_at_mut-frame.result.0.now c.seal_in_place-check.new.frame) in
    let kept : (with_items c.put.new.into whole).items ≡ whole = with_items_is c.put.new.into whole long in
    record { enough = omega (arith, ap length kept, long, c.put.new.into.ok.0, c.requires.room, ap length c.put.ensures.items, ap length c.put_head.ensures.items, ap length c.as_slice.ensures.value, c.put.ensures.capacity, c.put_head.ensures.capacity, length-append c.put_head.new.into.items c.as_slice.result.now, length-append c.args.into.now.items head) }

pub returns-clause-appended : goal.returns-clause-appended
returns-clause-appended c =
    let head : List ℕ = head_octets c.args.sci c.args.an c.args.pn c.args.conf c.args.user.now in
    let count : length head ≡ 28 = sym (c.head_len-head.ensures.value c.args.an c.args.pn c.args.conf c.args.user.now.body) ∙ c.head_len-head.ensures.fixed in
    let items : c.put.new.into.items ≡ (c.args.into.now.items ++ head) ++ c.args.user.now.body =
    c.put.ensures.items ∙ (λ i. c.put_head.ensures.items i ++ c.as_slice.ensures.value i) in
    let start : c.len-start.result ≡ length c.args.into.now.items = c.len-start.ensures ∙ c.args.into.now.ok.0 in
    let front : c.split_at_mut-frame.result.0.now ≡ take c.len-start.result c.put.new.into.items =
    c.split_at_mut-frame.ensures.front ∙ ap (take c.len-start.result) c.deref_mut.ensures.value in
    let back : c.split_at_mut-frame.result.1.now ≡ drop c.len-start.result c.put.new.into.items =
    c.split_at_mut-frame.ensures.back ∙ ap (drop c.len-start.result) c.deref_mut.ensures.value in
    let whole : List ℕ = c.split_at_mut-frame.result.0.now ++ c.seal_in_place-check.new.frame in
    let long : length whole ≡ c.put.new.into.len =
    omega (arith, c.put.new.into.ok.0, c.split_at_mut-frame.ensures.back_len, c.split_at_mut-frame.ensures.front_len, c.seal_in_place-check.auto.frame, ap length c.deref_mut.ensures.value, length-append c.split_at_mut-frame.result.0.now c.seal_in_place-check.new.frame) in
    let kept : (with_items c.put.new.into whole).items ≡ whole = with_items_is c.put.new.into whole long in
    let made : sealed_octets c.args.key.now (iv c.args.sci c.args.pn) c.args.conf (take 28 (drop c.len-start.result c.put.new.into.items)) (drop 28 (drop c.len-start.result c.put.new.into.items)) ≡ c.seal_in_place-check.new.frame ++ c.seal_in_place-check.result =
    sym (λ i. sealed_octets c.args.key.now (c.iv_of.ensures i) c.args.conf (take 28 (back i)) (drop 28 (back i))) ∙ c.seal_in_place-check.ensures in
    c.put-2.ensures.items
    ∙ ap (λ (x : List ℕ). x ++ c.seal_in_place-check.result) (kept ∙ ap (λ (x : List ℕ). x ++ c.seal_in_place-check.new.frame) front)
    ∙ sealed_behind c.args.key.now (iv c.args.sci c.args.pn) c.args.into.now.items head c.args.user.now.body c.put.new.into.items c.seal_in_place-check.new.frame c.seal_in_place-check.result c.args.conf c.len-start.result start count items made

pub returns-clause-len : goal.returns-clause-len
returns-clause-len c =
    let head : List ℕ = head_octets c.args.sci c.args.an c.args.pn c.args.conf c.args.user.now in
    let count : length head ≡ 28 = sym (c.head_len-head.ensures.value c.args.an c.args.pn c.args.conf c.args.user.now.body) ∙ c.head_len-head.ensures.fixed in
    let whole : List ℕ = c.split_at_mut-frame.result.0.now ++ c.seal_in_place-check.new.frame in
    let long : length whole ≡ c.put.new.into.len =
    omega (arith, c.put.new.into.ok.0, c.split_at_mut-frame.ensures.back_len, c.split_at_mut-frame.ensures.front_len, c.seal_in_place-check.auto.frame, ap length c.deref_mut.ensures.value, length-append c.split_at_mut-frame.result.0.now c.seal_in_place-check.new.frame) in
    let kept : (with_items c.put.new.into whole).items ≡ whole = with_items_is c.put.new.into whole long in
    omega (arith, c.put-2.new.into.ok.0, c.args.into.now.ok.0, ap length c.put-2.ensures.items, length-append (with_items c.put.new.into whole).items c.seal_in_place-check.result, ap length kept, long, c.put.new.into.ok.0, ap length c.put.ensures.items, ap length c.put_head.ensures.items, ap length c.as_slice.ensures.value, length-append c.put_head.new.into.items c.as_slice.result.now, length-append c.args.into.now.items head)
