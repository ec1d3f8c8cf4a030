-- A record or a block is read that a text goes on with.
use Rattle.std.proofs.Common.{◌≡◌, ◌≢◌, ℕ, ◌+◌, ◌-◌, ◌<◌, ◌≤◌, true, false, List, [], ◌++◌, drop, length, take, Option, Result, Ok, Err, refl, sym, ap, ◌∙◌, length-append, length-drop, arith, inl, inr, take_at, drop_at}
use Rattle.std.specs.Prelude.{nat_lt}
use Rattle.std.proofs.lemmas.Bool.{cases_lt}
use Rattle.std.proofs.lemmas.Bool.Decides.{nat_tests}
use Rattle.std.proofs.lemmas.List.{length-take-le, take_all}
use Rattle.lan_base.specs.declared.source.ReadEnd.{ReadEnd}
use Rattle.lan_base.specs.declared.source.ReadEnd.TheVariants as readings
use Rattle.capture_file.specs.declared.order.Order.{Order}
use Rattle.octet_supply.specs.Supplying.{Held, Stands}
use Rattle.capture_packets.specs.Reading.{FileEnd}
use Rattle.capture_packets.specs.declared.block.Block.{Block}
use Rattle.text_lines.specs.Ends.{end_of}
use Rattle.text_lines.specs.declared.reading.End.TheVariants.{Limit, Memory, ReadFault, Refused}
use Rattle.capture_packets.specs.declared.fault.CaptureFault.{CaptureFault}
use Rattle.capture_packets.specs.declared.fault.CaptureFault.TheVariants as fault
use Rattle.capture_packets.specs.declared.packet.Packet.{Packet}
use Rattle.capture_packets.specs.declared.state.Layout.{Layout}
use Rattle.capture_packets.specs.declared.state.Layout.TheVariants.{Records, Blocks}
use Rattle.capture_packets.specs.declared.state.Progress.{Progress}
use Rattle.capture_packets.specs.declared.state.Progress.TheVariants as progress
use Rattle.capture_packets.specs.Numbers.{part}
use Rattle.capture_packets.specs.Packets.{Context}
use Rattle.capture_packets.specs.Captures.{Step, closing, done, frame_of, is_closed, size, step, step_by}
use Rattle.capture_packets.specs.inside.Taking.{Closes, EndsWith, Finishes, StepsOn, TakesBlock}

-- ---- what a step is

cut-by : (known : Context) (behind : List ℕ) (block : Block) → length behind < size known.layout block
    → step_by known behind (Ok block) ≡ Err fault.Cut
cut-by known behind block less =
    let a : nat_lt (length behind) (size known.layout block) ≡ true = grind (arith, nat_tests) in rw a refl

pub step-cut : (known : Context) (behind : List ℕ) (block : Block) → frame_of known behind ≡ Ok block
    → length behind < size known.layout block → step known behind ≡ Err fault.Cut
step-cut known behind block fr less = ap (step_by known behind) fr ∙ cut-by known behind block less

unclosed-by : (known : Context) (behind : List ℕ) (block : Block) → size known.layout block ≤ length behind
    → is_closed known.layout known.order block (part (size known.layout block - 4) 4 behind) ≡ false
    → step_by known behind (Ok block) ≡ Err fault.Block
unclosed-by known behind block whole is =
    let a : nat_lt (length behind) (size known.layout block) ≡ false = grind (arith, nat_tests) in rw (a, is) refl

step-unclosed : (known : Context) (behind : List ℕ) (block : Block) → frame_of known behind ≡ Ok block
    → size known.layout block ≤ length behind
    → is_closed known.layout known.order block (part (size known.layout block - 4) 4 behind) ≡ false
    → step known behind ≡ Err fault.Block
step-unclosed known behind block fr whole is =
    ap (step_by known behind) fr ∙ unclosed-by known behind block whole is

done-by : (known : Context) (behind : List ℕ) (block : Block) → size known.layout block ≤ length behind
    → is_closed known.layout known.order block (part (size known.layout block - 4) 4 behind) ≡ true
    → step_by known behind (Ok block)
    ≡ done known block.what (part block.before block.kept behind) (drop (size known.layout block) behind)
done-by known behind block whole is =
    let a : nat_lt (length behind) (size known.layout block) ≡ false = grind (arith, nat_tests) in rw (a, is) refl

pub step-done : (known : Context) (behind : List ℕ) (block : Block) → frame_of known behind ≡ Ok block
    → size known.layout block ≤ length behind
    → is_closed known.layout known.order block (part (size known.layout block - 4) 4 behind) ≡ true
    → step known behind
    ≡ done known block.what (part block.before block.kept behind) (drop (size known.layout block) behind)
step-done known behind block fr whole is = ap (step_by known behind) fr ∙ done-by known behind block whole is

-- the octets that close a block
closed-same : (layout : Layout) (order : Order) (block : Block) (behind : List ℕ)
    → is_closed layout order block (part (block.before + (block.kept + block.behind)) (closing layout) behind)
    ≡ is_closed layout order block (part (size layout block - 4) 4 behind)
closed-same (Records parts) order block behind = refl
closed-same Blocks order block behind =
    ap (λ (k : ℕ). is_closed Blocks order block (part k 4 behind))
    (let e : block.before + (block.kept + block.behind) ≡ size Blocks block - 4 = omega arith in e)

-- ---- not all of it was taken

pub steps-take : (limit : ℕ) (text given behind : List ℕ) (known now : Context) (at end : ℕ) (block : Block)
    (packet : Packet) (into : List ℕ) (middle new : Held) (left : Option (List ℕ)) (e : ReadEnd)
    → frame_of known behind ≡ Ok block → end ≡ closing known.layout
    → TakesBlock limit text given behind end block into middle left (Err e)
    → StepsOn limit text given behind known at packet now new left (Err (end_of e))
steps-take limit text given behind known now at end block packet into middle new left readings.Limit fr is (less, longer) =
    (longer, inr (step-cut known behind block fr (omega (arith, less, is))))
steps-take limit text given behind known now at end block packet into middle new left readings.Failed fr is (more, less, taken) =
    (more, taken, inr (block, fr, omega (arith, less, is)))
steps-take limit text given behind known now at end block packet into middle new left readings.Memory fr is t = tt

-- how many octets were given out of so many
taken-count : (limit : ℕ) (text given behind : List ℕ) (all old : ℕ) (new : Held) (left : Option (List ℕ))
    → Stands limit text (given ++ take all behind) new left → old ≡ length given
    → new.given - old ≡ length (take all behind)
taken-count limit text given behind all old new left s is =
    let c = s.count in let l = length-append given (take all behind) in omega (arith, c, l, is)

pub taken-less : (limit : ℕ) (text given behind : List ℕ) (all old : ℕ) (new : Held) (left : Option (List ℕ))
    → Stands limit text (given ++ take all behind) new left → old ≡ length given → new.given - old < all
    → length behind < all
taken-less limit text given behind all old new left s is less =
    elim (cases_lt (length behind) all) [
      | inl l ↦ l
      | inr m ↦ absurd (let c = taken-count limit text given behind all old new left s is in
          let t = length-take-le all behind m in omega (arith, c, t, less))
    ]

pub taken-whole : (limit : ℕ) (text given behind : List ℕ) (all old : ℕ) (new : Held) (left : Option (List ℕ))
    → Stands limit text (given ++ take all behind) new left → old ≡ length given → all ≤ new.given - old
    → all ≤ length behind
taken-whole limit text given behind all old new left s is enough =
    elim (cases_lt (length behind) all) [
      | inl l ↦ absurd (let c = taken-count limit text given behind all old new left s is in
          let t = ap length (take_all all behind (omega (arith, l))) in omega (arith, c, t, l, enough))
      | inr m ↦ m
    ]

pub steps-short : (limit : ℕ) (text given behind : List ℕ) (known now : Context) (at place : ℕ) (block : Block)
    (packet : Packet) (new : Held) (left : Option (List ℕ)) → place ≡ at → behind ≢ []
    → frame_of known behind ≡ Ok block → length behind < size known.layout block
    → EndsWith limit text (given ++ behind)
    → StepsOn limit text given behind known at packet now new left (Err (Refused (place, fault.Cut)))
steps-short limit text given behind known now at place block packet new left here some fr less e =
    (here, some, step-cut known behind block fr less, (λ _. e.within))

-- ---- all of it was taken

-- what was taken of a block that is whole
pub record IsWhole (known : Context) (behind : List ℕ) (block : Block) (old : List ℕ) : Type 0 where
  pub frame : frame_of known behind ≡ Ok block
  pub all : size known.layout block ≤ length behind
  pub taken : old ≡ part block.before block.kept behind
      ++ part (block.before + (block.kept + block.behind)) (closing known.layout) behind

part-count : (place count : ℕ) (behind : List ℕ) → place + count ≤ length behind
    → length (part place count behind) ≡ count
part-count place count behind few =
    length-take-le count (drop place behind) (let l = length-drop place behind in omega (arith, l, few))

kept-count : (known : Context) (behind : List ℕ) (block : Block) (old : List ℕ) → IsWhole known behind block old
    → length (part block.before block.kept behind) ≡ block.kept
kept-count known behind block old w = part-count block.before block.kept behind (let a = w.all in omega (arith, a))

old-count : (known : Context) (behind : List ℕ) (block : Block) (old : List ℕ) → IsWhole known behind block old
    → length old ≡ block.kept + closing known.layout
old-count known behind block old w =
    let kept = part block.before block.kept behind in
    let end = part (block.before + (block.kept + block.behind)) (closing known.layout) behind in
    let l = ap length w.taken ∙ length-append kept end in
    let k = kept-count known behind block old w in
    let e = part-count (block.before + (block.kept + block.behind)) (closing known.layout) behind
    (let a = w.all in omega (arith, a)) in
    omega (arith, l, k, e)

end-taken : (known : Context) (behind : List ℕ) (block : Block) (old : List ℕ) → IsWhole known behind block old
    → drop block.kept old ≡ part (block.before + (block.kept + block.behind)) (closing known.layout) behind
end-taken known behind block old w =
    ap (drop block.kept) w.taken
    ∙ drop_at (part block.before block.kept behind)
    (part (block.before + (block.kept + block.behind)) (closing known.layout) behind) block.kept
    (kept-count known behind block old w)

is-closed : (known : Context) (behind : List ℕ) (block : Block) (old : List ℕ) → IsWhole known behind block old
    → is_closed known.layout known.order block (drop block.kept old)
    ≡ is_closed known.layout known.order block (part (size known.layout block - 4) 4 behind)
is-closed known behind block old w =
    ap (is_closed known.layout known.order block) (end-taken known behind block old w)
    ∙ closed-same known.layout known.order block behind

pub steps-close : (limit : ℕ) (text given behind : List ℕ) (known now : Context) (at place : ℕ) (block : Block)
    (packet : Packet) (old after : List ℕ) (new : Held) (left : Option (List ℕ)) (why : CaptureFault)
    → place ≡ at → behind ≢ [] → IsWhole known behind block old
    → Closes known.layout known.order block old after (Err why)
    → StepsOn limit text given behind known at packet now new left (Err (Refused (place, why)))
steps-close limit text given behind known now at place block packet old after new left fault.Cut here some w c =
    absurd (let l = old-count known behind block old w in omega (arith, l, c))
steps-close limit text given behind known now at place block packet old after new left fault.Block here some w c = (
  here,
  some,
  step-unclosed known behind block w.frame w.all (sym (is-closed known behind block old w) ∙ c.1),
  (λ cut. cc cut),
)
steps-close limit text given behind known now at place block packet old after new left fault.Magic here some w c = absurd c
steps-close limit text given behind known now at place block packet old after new left fault.LinkType here some w c = absurd c
steps-close limit text given behind known now at place block packet old after new left fault.Length here some w c = absurd c
steps-close limit text given behind known now at place block packet old after new left fault.Interface here some w c = absurd c

-- the octets that are kept, of a block whose totals agree
pub record IsClosed (known : Context) (behind : List ℕ) (block : Block) (kept : List ℕ) : Type 0 where
  pub kept_is : kept ≡ part block.before block.kept behind
  pub step_is : step known behind
      ≡ done known block.what (part block.before block.kept behind) (drop (size known.layout block) behind)

pub closed : (known : Context) (behind : List ℕ) (block : Block) (old after : List ℕ)
    → IsWhole known behind block old → Closes known.layout known.order block old after (Ok tt)
    → IsClosed known behind block after
closed known behind block old after w c = record {
  kept_is = c.2 ∙ ap (take block.kept) w.taken
      ∙ take_at (part block.before block.kept behind)
      (part (block.before + (block.kept + block.behind)) (closing known.layout) behind) block.kept
      (kept-count known behind block old w);
  step_is = step-done known behind block w.frame w.all (sym (is-closed known behind block old w) ∙ c.1);
}

-- what finishing a block gave is what a step of the text is
by-done : (known now : Context) (behind : List ℕ) (block : Block) (kept : List ℕ) (r : Result Step CaptureFault)
    → IsClosed known behind block kept
    → done known block.what kept (drop (size known.layout block) behind) ≡ r → step known behind ≡ r
by-done known now behind block kept r k is =
    k.step_is ∙ ap (λ (l : List ℕ). done known block.what l (drop (size known.layout block) behind)) (sym k.kept_is)
    ∙ is

pub steps-finish : (limit : ℕ) (text given behind : List ℕ) (known now : Context) (at place : ℕ) (block : Block)
    (packet : Packet) (kept : List ℕ) (new : Held) (left : Option (List ℕ)) (r : Result Progress FileEnd)
    → place ≡ at → behind ≢ [] → 8 ≤ block.before → size known.layout block ≤ length behind
    → Stands limit text (given ++ take (size known.layout block) behind) new left
    → IsClosed known behind block kept → Finishes known block.what kept place packet now r
    → StepsOn limit text given behind known at packet now new left r
steps-finish limit text given behind known now at place block packet kept new left (Ok progress.End) here some least whole stands k f = absurd f
steps-finish limit text given behind known now at place block packet kept new left (Ok progress.Packet) here some least whole stands k f = record {
  all = size known.layout block;
  some = omega (arith, least);
  whole = whole;
  stands = stands;
  step_is = by-done known now behind block kept _ k (f (drop (size known.layout block) behind));
}
steps-finish limit text given behind known now at place block packet kept new left (Ok progress.Other) here some least whole stands k f = record {
  all = size known.layout block;
  some = omega (arith, least);
  whole = whole;
  stands = stands;
  step_is = by-done known now behind block kept _ k (f (drop (size known.layout block) behind));
}
steps-finish limit text given behind known now at place block packet kept new left (Err (Refused (there, why))) here some least whole stands k f = (
  f.0 ∙ here,
  some,
  by-done known now behind block kept (Err why) k (f.2 (drop (size known.layout block) behind)),
  (λ cut. absurd (f.1 cut)),
)
steps-finish limit text given behind known now at place block packet kept new left (Err Limit) here some least whole stands k f = absurd f
steps-finish limit text given behind known now at place block packet kept new left (Err ReadFault) here some least whole stands k f = absurd f
steps-finish limit text given behind known now at place block packet kept new left (Err Memory) here some least whole stands k f = tt
