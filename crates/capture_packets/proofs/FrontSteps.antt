-- More octets behind a front change nothing of the records and blocks that end in it.
use Rattle.std.proofs.Common.{◌≡◌, ◌≢◌, ℕ, zero, suc, ◌+◌, ◌-◌, ◌%◌, ◌^◌, ◌≤◌, Bool, true, false, List, [], ◌∷◌, ◌++◌, drop, length, take, Option, Some, None, Result, Ok, Err, refl, sym, ap, ◌∙◌, subst, length-append, length-drop, arith, inl, inr}
use Rattle.std.specs.Prelude.{◌==◌, if◌then◌else◌, nat_lt, not}
use Rattle.std.proofs.lemmas.Bool.{cases_lt, le-ltb, lt-ltb}
use Rattle.std.proofs.lemmas.List.{drop-append-le, take-append-le}
use Rattle.byteorder.specs.Numbers.{big_from-append, little_from-append}
use Rattle.capture_file.specs.declared.order.Order.{Order}
use Rattle.capture_file.specs.declared.order.Order.TheVariants.{Big, Little}
use Rattle.capture_file.specs.Pcap.{ethernet, link_type, number_in}
use Rattle.capture_packets.specs.declared.block.Block.{Block}
use Rattle.capture_packets.specs.declared.block.What.{What}
use Rattle.capture_packets.specs.declared.block.What.TheVariants as what
use Rattle.capture_packets.specs.declared.fault.CaptureFault.{CaptureFault}
use Rattle.capture_packets.specs.declared.fault.CaptureFault.TheVariants as fault
use Rattle.capture_packets.specs.declared.head.Head.{Head}
use Rattle.capture_packets.specs.declared.state.Layout.{Layout}
use Rattle.capture_packets.specs.declared.state.Layout.TheVariants.{Records, Blocks}
use Rattle.capture_packets.specs.declared.state.Parts.{Parts}
use Rattle.capture_packets.specs.declared.state.Parts.TheVariants.{Micros, Nanos}
use Rattle.capture_packets.specs.Numbers.{part}
use Rattle.capture_packets.specs.Packets.{Context, Seen}
use Rattle.capture_packets.specs.Records.{parts_in}
use Rattle.capture_packets.specs.Blocks.{section_type}
use Rattle.capture_packets.specs.Options.{ticks_in}
use Rattle.capture_packets.specs.Captures.{Refusal, Step, Told, begun, blocks_head, capture, done, frame_of, head_by, head_in, is_closed, opened, opened_by, opened_with, records_head, refused_at, size, step, step_by, told, told_by, with_first, with_interface}
use Rattle.capture_packets.specs.Fronts.{IsToldBefore}
use Rattle.capture_packets.proofs.FrontFields.{cut-more, frame-more, number-more, taken-more}
use Rattle.capture_packets.proofs.Opened.{in-records}

-- ---- a step

-- a step behind which more octets follow
abbrev pub before : List ℕ → Result Step CaptureFault → Result Step CaptureFault
before c (Err why) = Err why
before c (Ok s) = Ok (record s { rest = s.rest ++ c })

with-more : (known : Context) (is_ethernet : Bool) (snap : ℕ) (rest c : List ℕ) (o : Option ℕ)
    → with_interface known is_ethernet snap (rest ++ c) o ≡ before c (with_interface known is_ethernet snap rest o)
with-more known is_ethernet snap rest c None = refl
with-more known is_ethernet snap rest c (Some ticks) = refl

done-more : (known : Context) (w : What) (kept rest c : List ℕ)
    → done known w kept (rest ++ c) ≡ before c (done known w kept rest)
done-more known (what.Section order) kept rest c = refl
done-more known (what.Interface is_ethernet snap) kept rest c =
    with-more known is_ethernet snap rest c (ticks_in known.order kept)
done-more known (what.Packet head) kept rest c = refl
done-more known what.Other kept rest c = refl

part-more : (place count : ℕ) (a c : List ℕ) → place + count ≤ length a
    → part place count (a ++ c) ≡ part place count a
part-more place count a c few =
    let l = length-drop place a in
    ap (take count) (drop-append-le place a c (omega (arith, few)))
    ∙ take-append-le count (drop place a) c (omega (arith, l, few))

closed-more : (layout : Layout) (order : Order) (block : Block) (a c : List ℕ) → size layout block ≤ length a
    → is_closed layout order block (part (size layout block - 4) 4 (a ++ c))
    ≡ is_closed layout order block (part (size layout block - 4) 4 a)
closed-more (Records parts) order block a c few = refl
closed-more Blocks order block a c few =
    ap (is_closed Blocks order block) (part-more (size Blocks block - 4) 4 a c (omega (arith, few)))

-- a block whose octets are there
abbrev whole_by : Bool → Context → What → List ℕ → List ℕ → Result Step CaptureFault
whole_by closed known w kept rest = if not closed then Err fault.Block else done known w kept rest

whole-more : (closed : Bool) (known : Context) (w : What) (kept rest c : List ℕ)
    → whole_by closed known w kept (rest ++ c) ≡ before c (whole_by closed known w kept rest)
whole-more true known w kept rest c = done-more known w kept rest c
whole-more false known w kept rest c = refl

if-before : (b d : Bool) (c : List ℕ) (x y : Result Step CaptureFault) → b ≡ false → d ≡ false → x ≡ before c y
    → (if b then Err fault.Cut else x) ≡ before c (if d then Err fault.Cut else y)
if-before b d c x y whole front same = rw (whole, front) same

step-by-more : (known : Context) (block : Block) (a c : List ℕ) → step_by known a (Ok block) ≢ Err fault.Cut
    → step_by known (a ++ c) (Ok block) ≡ before c (step_by known a (Ok block))
step-by-more known block a c uncut =
    let all = size known.layout block in
    let closed = λ (l : List ℕ). is_closed known.layout known.order block (part (all - 4) 4 l) in
    let kept = part block.before block.kept in
    elim (cases_lt (length a) all) [
      | inl less ↦ absurd (uncut (ap (λ (b : Bool). if b then Err fault.Cut
          else whole_by (closed a) known block.what (kept a) (drop all a)) (lt-ltb (length a) all less)))
      | inr long ↦
          let l = length-append a c in
          let same = closed-more known.layout known.order block a c long in
          let kept_is = part-more block.before block.kept a c (omega (arith, long)) in
          let rest = drop-append-le all a c long in
          if-before (nat_lt (length (a ++ c)) all) (nat_lt (length a) all) c
          (whole_by (closed (a ++ c)) known block.what (kept (a ++ c)) (drop all (a ++ c)))
          (whole_by (closed a) known block.what (kept a) (drop all a))
          (le-ltb (length (a ++ c)) all (omega (arith, l, long))) (le-ltb (length a) all long)
          ((λ i. whole_by (same i) known block.what (kept_is i) (rest i))
          ∙ whole-more (closed a) known block.what (kept a) (drop all a) c)
    ]

step-framed : (known : Context) (a c : List ℕ) (r : Result Block CaptureFault) → frame_of known a ≡ r
    → step_by known a r ≢ Err fault.Cut
    → step_by known (a ++ c) (frame_of known (a ++ c)) ≡ before c (step_by known a r)
step-framed known a c (Err why) is uncut =
    let same = frame-more known a c (λ cut. uncut (sym (ap (step_by known a) is) ∙ ap (step_by known a) cut)) in
    ap (step_by known (a ++ c)) (same ∙ is)
step-framed known a c (Ok block) is uncut =
    let same = frame-more known a c (λ cut. cc (sym is ∙ cut)) in
    ap (step_by known (a ++ c)) (same ∙ is) ∙ step-by-more known block a c uncut

pub step-more : (known : Context) (a c : List ℕ) → step known a ≢ Err fault.Cut
    → step known (a ++ c) ≡ before c (step known a)
step-more known a c uncut = step-framed known a c (frame_of known a) refl uncut

-- ---- all of them

-- a front without packets of which no more than its end is refused
none-before : (t u : Told) → t.packets ≡ []
    → ((at : ℕ) (why : CaptureFault) → t.refused ≡ Some (record { at = at; why = why }) → why ≢ fault.Cut → u ≡ t)
    → IsToldBefore t u
none-before t u none refused = record {
  later = u.packets;
  packets = ap (λ (l : List Seen). l ++ u.packets) (sym none);
  refused = refused;
}

first-before : (p : Option Seen) (t u : Told) → IsToldBefore t u → IsToldBefore (with_first p t) (with_first p u)
first-before None t u b = b
first-before (Some packet) t u b = record {
  later = b.later;
  packets = ap (λ (l : List Seen). packet ∷ l) b.packets;
  refused = λ at why is other. ap (with_first (Some packet)) (b.refused at why is other);
}

abbrev why_in : Option Refusal → CaptureFault
why_in None = fault.Cut
why_in (Some r) = r.why

-- what is told is refused at its first
refused-before : (at : ℕ) (why : CaptureFault) (u : Told) → (why ≢ fault.Cut → u ≡ refused_at at why)
    → IsToldBefore (refused_at at why) u
refused-before at why u same =
    none-before (refused_at at why) u refl (λ place other is uncut. same (λ cut. uncut (sym (ap why_in is) ∙ cut)))

-- what is told by a step
told-by-more : (later after : Context → ℕ → List ℕ → Told) (at : ℕ) (a c : List ℕ) (r whole : Result Step CaptureFault)
    → (r ≢ Err fault.Cut → whole ≡ before c r)
    → ((known : Context) (place : ℕ) (rest : List ℕ) → IsToldBefore (later known place rest) (after known place (rest ++ c)))
    → IsToldBefore (told_by later at (length a) r) (told_by after at (length (a ++ c)) whole)
told-by-more later after at a c (Err why) whole same on =
    refused-before at why (told_by after at (length (a ++ c)) whole)
    (λ uncut. ap (told_by after at (length (a ++ c))) (same (λ e. uncut (cc e))))
told-by-more later after at a c (Ok s) whole same on =
    let place : at + (length (a ++ c) - length (s.rest ++ c)) ≡ at + (length a - length s.rest) =
    (let l = length-append a c in let m = length-append s.rest c in omega (arith, l, m)) in
    let b = first-before s.packet (later s.known (at + (length a - length s.rest)) s.rest)
    (after s.known (at + (length a - length s.rest)) (s.rest ++ c))
    (on s.known (at + (length a - length s.rest)) s.rest) in
    subst (λ (u : Told). IsToldBefore (told_by later at (length a) (Ok s)) u)
    (sym (ap (told_by after at (length (a ++ c))) (same (λ e. cc e))
    ∙ ap (λ (k : ℕ). with_first s.packet (after s.known k (s.rest ++ c))) place)) b

told-more : (n m : ℕ) (known : Context) (at : ℕ) (a c : List ℕ) → n ≤ m
    → IsToldBefore (told n known at a) (told m known at (a ++ c))
told-more zero m known at a c few = none-before _ (told m known at (a ++ c)) refl (λ place why is. absurd (cc is))
told-more (suc n) m known at [] c few = none-before _ (told m known at c) refl (λ place why is. absurd (cc is))
told-more (suc n) zero known at (o ∷ a) c few = absurd (omega (arith, few))
told-more (suc n) (suc m) known at (o ∷ a) c few =
    told-by-more (told n) (told m) at (o ∷ a) c (step known (o ∷ a)) (step known ((o ∷ a) ++ c))
    (λ uncut. step-more known (o ∷ a) c uncut)
    (λ later place rest. told-more n m later place rest c (omega (arith, few)))

-- ---- the head

abbrev Headed : Type 0
Headed = Result Head CaptureFault

first-more : (order : Order) (a c : List ℕ) → 4 ≤ length a → number_in order (a ++ c) ≡ number_in order a
first-more Big a c long = big_from-append 4 a c long
first-more Little a c long = little_from-append 4 a c long

abbrev parts_by : ℕ → Option Parts
parts_by n =
    if n == 0xa1b2c3d4 then Some Micros else if n == 0xa1b23c4d then Some Nanos else None

records-more : (order : Order) (p : Parts) (a c : List ℕ) → records_head order p a ≢ Err fault.Cut
    → records_head order p (a ++ c) ≡ records_head order p a
records-more order p a c uncut =
    cut-more 24 a c (Err fault.Cut)
    (if not (link_type order (a ++ c) == ethernet) then Err fault.LinkType
    else Ok (record { layout = Records p; order = order }))
    (if not (link_type order a == ethernet) then Err fault.LinkType
    else Ok (record { layout = Records p; order = order }))
    (λ long _. ap (λ (k : ℕ). if not (k % 2 ^ 16 == ethernet) then Err fault.LinkType
    else Ok (record { layout = Records p; order = order }))
    (number-more order 20 a c (omega (arith, long)))) uncut

head-by-more : (b l : Option Parts) (a c : List ℕ) → 4 ≤ length a → head_by a b l ≢ Err fault.Cut
    → head_by (a ++ c) b l ≡ head_by a b l
head-by-more (Some p) l a c long uncut = records-more Big p a c uncut
head-by-more None (Some p) a c long uncut = records-more Little p a c uncut
head-by-more None None a c long uncut =
    ap (λ (k : ℕ). if k == section_type then Ok blocks_head else Err fault.Magic) (first-more Big a c long)

head-more : (a c : List ℕ) → head_in a ≢ Err fault.Cut → head_in (a ++ c) ≡ head_in a
head-more a c uncut =
    cut-more 4 a c (Err fault.Cut) (head_by (a ++ c) (parts_in Big (a ++ c)) (parts_in Little (a ++ c)))
    (head_by a (parts_in Big a) (parts_in Little a))
    (λ long rest.
    let big = ap parts_by (first-more Big a c long) in
    let little = ap parts_by (first-more Little a c long) in
    (λ i. head_by (a ++ c) (big i) (little i))
    ∙ head-by-more (parts_in Big a) (parts_in Little a) a c long rest) uncut

opened-by-more : (layout : Layout) (known : Context) (a c : List ℕ)
    → ((p : Parts) → layout ≡ Records p → 24 ≤ length a) → opened_by layout known a ≢ Err fault.Cut
    → opened_by layout known (a ++ c) ≡ before c (opened_by layout known a)
opened-by-more (Records p) known a c long uncut =
    ap (λ (l : List ℕ). Ok (record { packet = None; known = known; rest = l })) (drop-append-le 24 a c (long p refl))
opened-by-more Blocks known a c long uncut = step-more known a c uncut

opened-with-more : (a c : List ℕ) (h : Headed) → head_in (take 24 a) ≡ h → opened_with a h ≢ Err fault.Cut
    → opened_with (a ++ c) h ≡ before c (opened_with a h)
opened-with-more a c (Err why) is uncut = refl
opened-with-more a c (Ok head) is uncut =
    opened-by-more head.layout (begun head) a c (λ p layout. in-records a head p is layout) uncut

head-cut : (a : List ℕ) → opened a ≢ Err fault.Cut → head_in (take 24 a) ≢ Err fault.Cut
head-cut a uncut cut = uncut (ap (opened_with a) cut)

opened-more : (a c : List ℕ) → opened a ≢ Err fault.Cut → opened (a ++ c) ≡ before c (opened a)
opened-more a c uncut =
    ap (opened_with (a ++ c)) (taken-more head_in (Err fault.Cut) 24 a c (λ b d u. head-more b d u) (head-cut a uncut))
    ∙ opened-with-more a c (head_in (take 24 a)) refl uncut

pub front-told : (a c : List ℕ) → IsToldBefore (capture a) (capture (a ++ c))
front-told a c =
    told-by-more (told (length a)) (told (length (a ++ c))) 0 a c (opened a) (opened (a ++ c))
    (λ uncut. opened-more a c uncut)
    (λ known place rest. told-more (length a) (length (a ++ c)) known place rest c
    (let l = length-append a c in omega (arith, l)))
