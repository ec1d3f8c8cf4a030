-- A head that a source fails within is not whole in what was taken.
use Rattle.std.proofs.Common.{◌≡◌, ◌≢◌, ℕ, ◌-◌, ◌≤◌, List, ◌++◌, drop, length, take, Result, Ok, Err, refl, sym, ap, ◌∙◌, arith, inl, inr}
use Rattle.std.specs.Prelude.{nat_lt, not}
use Rattle.std.proofs.lemmas.Bool.{ltb-false}
use Rattle.std.proofs.lemmas.List.{take-append-le}
use Rattle.capture_packets.specs.declared.block.Block.{Block}
use Rattle.capture_packets.specs.declared.fault.CaptureFault.{CaptureFault}
use Rattle.capture_packets.specs.declared.fault.CaptureFault.TheVariants as fault
use Rattle.capture_packets.specs.declared.head.Head.{Head}
use Rattle.capture_packets.specs.declared.state.Layout.{Layout}
use Rattle.capture_packets.specs.declared.state.Layout.TheVariants.{Records, Blocks}
use Rattle.capture_packets.specs.Numbers.{part}
use Rattle.capture_packets.specs.Packets.{Context}
use Rattle.capture_packets.specs.Captures.{Step, begun, blank, blocks_head, done, frame_of, head_in, is_closed, opened, opened_by, opened_with, size, step, step_by}
use Rattle.capture_packets.specs.Reading.{IsWithinHead, IsWithinNext}
use Rattle.capture_packets.proofs.FrontFields.{frame-more}
use Rattle.capture_packets.proofs.Opened.{first-size, in-blocks, in-records}
use Rattle.capture_packets.proofs.WholeFronts.{taken-by}

-- ---- what a step takes

record HasBlock (known : Context) (octets : List ℕ) : Type 0 where
  pub block : Block
  pub frame : frame_of known octets ≡ Ok block
  pub whole : size known.layout block ≤ length octets

block-by : (known : Context) (octets : List ℕ) (s : Step) (r : Result Block CaptureFault) → frame_of known octets ≡ r
    → step_by known octets r ≡ Ok s → HasBlock known octets
block-by known octets s (Err why) fr st = cc st
block-by known octets s (Ok b) fr st =
    let n = size known.layout b in
    let t = taken-by (nat_lt (length octets) n) (not (is_closed known.layout known.order b (part (n - 4) 4 octets)))
    (done known b.what (part b.before b.kept octets) (drop n octets)) s st in
    record { block = b; frame = fr; whole = ltb-false (length octets) n t.0 }

-- ---- the first section

within-none : (file more c : List ℕ) (h : HasBlock blank more) → file ≡ more ++ c → 28 ≤ size Blocks h.block
    → IsWithinNext blank file more → ⊥
within-none file more c h parts least (inl less) = let w = h.whole in omega (arith, w, least, less)
within-none file more c h parts least (inr (block, frame, less)) =
    let uncut : frame_of blank more ≢ Err fault.Cut = λ cut. cc (sym cut ∙ h.frame) in
    let same : h.block ≡ block =
    cc (sym h.frame ∙ sym (frame-more blank more c uncut) ∙ sym (ap (frame_of blank) parts) ∙ frame) in
    let l = ap (size Blocks) same in let w = h.whole in omega (arith, l, w, less)

-- ---- the head

unopened-by : (file more c : List ℕ) (h : Head) (layout : Layout) (s : Step) → file ≡ more ++ c
    → IsWithinHead file more → head_in (take 24 more) ≡ Ok h → h.layout ≡ layout
    → opened_by layout (begun h) more ≡ Ok s → ⊥
unopened-by file more c h (Records parts) s same (inl less) head is o =
    let l = in-records more h parts head is in omega (arith, l, less)
unopened-by file more c h (Records parts) s same (inr (blocks, next)) head is o =
    let l = in-records more h parts head is in
    let front : take 24 file ≡ take 24 more = ap (take 24) same ∙ take-append-le 24 more c l in
    let own : h ≡ blocks_head = cc (sym head ∙ sym (ap head_in front) ∙ blocks) in
    cc (sym is ∙ ap (λ (k : Head). k.layout) own)
unopened-by file more c h Blocks s same within head is o =
    let i = in-blocks (take 24 more) h head is in
    let st : step blank more ≡ Ok s = sym (ap (λ (k : Head). step (begun k) more) i.is) ∙ o in
    let b = block-by blank more s (frame_of blank more) refl st in
    let least = first-size more b.block i.section b.frame in
    let w = b.whole in
    elim within [
      | inl less ↦ omega (arith, w, least, less)
      | inr next ↦ within-none file more c b same least next.1
    ]

unopened-with : (file more c : List ℕ) (r : Result Head CaptureFault) (s : Step) → file ≡ more ++ c
    → IsWithinHead file more → head_in (take 24 more) ≡ r → opened_with more r ≡ Ok s → ⊥
unopened-with file more c (Err why) s same within head o = cc o
unopened-with file more c (Ok h) s same within head o =
    unopened-by file more c h h.layout s same within head refl o

-- the head of a file does not end within its head, or its first section
pub unopened : (file more c : List ℕ) (s : Step) → file ≡ more ++ c → IsWithinHead file more → opened more ≡ Ok s → ⊥
unopened file more c s same within o = unopened-with file more c (head_in (take 24 more)) s same within refl o
