-- What a reader tells behind a record or a block.
use Rattle.std.proofs.Common.{◌≡◌, ℕ, ◌+◌, ◌-◌, ◌≤◌, true, false, List, [], ◌∷◌, ◌++◌, drop, length, take, Option, Some, Ok, Err, refl, sym, ap, ◌∙◌, subst, append_assoc, length-append, length-drop, arith, inl, inr}
use Rattle.std.proofs.lemmas.List.{length-take-le, take-append-drop}
use Rattle.octet_supply.specs.Supplying.{Held}
use Rattle.text_lines.specs.declared.reading.End.TheVariants.{Limit, Memory, ReadFault, Refused}
use Rattle.capture_packets.specs.declared.fault.CaptureFault.TheVariants as fault
use Rattle.capture_packets.specs.declared.packet.Packet.{Packet}
use Rattle.capture_packets.specs.declared.reader.PacketReader.{PacketReader}
use Rattle.capture_packets.specs.declared.state.Progress.{Progress}
use Rattle.capture_packets.specs.declared.state.Progress.TheVariants as progress
use Rattle.capture_packets.specs.Packets.{Context, Seen, context}
use Rattle.capture_packets.specs.Captures.{Told, refused_at, step, with_first}
use Rattle.capture_packets.specs.Reading.{FileEnd, HasRead, IsTold, IsUnfinished, ReadsNext, TellsOn}
use Rattle.capture_packets.specs.inside.Taking.{IsStepped, StepsOn, packet_in}
use Rattle.capture_packets.proofs.Told.{behind-some, told-end, told-refused, told-step}
use Rattle.capture_packets.proofs.WholeFronts.{read-more, with_more}

-- ---- a reader that stands behind it

-- a reader tells on behind a step
pub stepped : (limit : ℕ) (text : List ℕ) (reader now : PacketReader) (left left_then : Option (List ℕ)) (t : Told)
    (packets : List Seen) (p : Progress) (packet : Packet) → (b : TellsOn limit text reader left packets t)
    → now.start ≡ reader.start
    → IsStepped limit text b.given b.behind (context reader.state) p packet (context now.state) now.supply left_then
    → (later : Told) × (t ≡ with_first (packet_in p packet) later)
    × TellsOn limit text now left_then (with_more packets (packet_in p packet)) later
stepped limit text reader now left left_then t packets p packet b same st =
    let all = st.all in
    let rest = drop all b.behind in
    let w = st.whole in
    let least = st.some in
    let begun = b.before.begun in
    let front = length-append b.given (take all b.behind) in
    let gone = length-take-le all b.behind w in
    let long = length-drop all b.behind in
    let d = told-step (context reader.state) (length b.given - reader.start) b.behind t _ b.tells
    (behind-some all b.behind least w) st.step_is (omega (arith, long, least, w)) in
    let place : length b.given - reader.start + (length b.behind - length rest)
    ≡ length (b.given ++ take all b.behind) - now.start =
    omega (arith, front, gone, long, w, begun, same) in (
      d.later,
      d.first,
      record {
        given = b.given ++ take all b.behind;
        behind = rest;
        before = record {
          stands = st.stands;
          visible = b.before.visible ∙ ap (λ (l : List ℕ). b.given ++ l) (sym (take-append-drop all b.behind))
              ∙ sym (append_assoc b.given (take all b.behind) rest);
          begun = omega (arith, front, begun, same);
        };
        read = subst (λ (k : ℕ). HasRead k (b.given ++ take all b.behind) (with_more packets (packet_in p packet))
            (context now.state)) (sym same)
            (read-more reader.start b.given b.behind packets (context reader.state) (context now.state)
            (packet_in p packet) all b.read least w st.step_is);
        tells = subst (λ (k : ℕ). IsTold (context now.state) k rest d.later) place d.tells;
      },
    )

-- ---- the ends

pub next-packet : (limit : ℕ) (text : List ℕ) (reader now : PacketReader) (left left_then : Option (List ℕ)) (t : Told)
    (packets : List Seen) (packet : Packet) → (b : TellsOn limit text reader left packets t) → now.start ≡ reader.start
    → IsStepped limit text b.given b.behind (context reader.state) progress.Packet packet (context now.state) now.supply left_then
    → ReadsNext limit text packets t packet now left_then (Ok true)
next-packet limit text reader now left left_then t packets packet b same st =
    stepped limit text reader now left left_then t packets progress.Packet packet b same st

pub next-other : (limit : ℕ) (text : List ℕ) (reader now : PacketReader) (left left_then : Option (List ℕ)) (t : Told)
    (packets : List Seen) (packet : Packet) → (b : TellsOn limit text reader left packets t) → now.start ≡ reader.start
    → IsStepped limit text b.given b.behind (context reader.state) progress.Other packet (context now.state) now.supply left_then
    → TellsOn limit text now left_then packets t
next-other limit text reader now left left_then t packets packet b same st =
    let s = stepped limit text reader now left left_then t packets progress.Other packet b same st in
    subst (λ (u : Told). TellsOn limit text now left_then packets u) (sym s.1) s.2

pub next-end : (limit : ℕ) (text : List ℕ) (reader now : PacketReader) (left left_then : Option (List ℕ)) (t : Told)
    (packets : List Seen) (packet : Packet) → (b : TellsOn limit text reader left packets t)
    → (b.behind ≡ []) × (length text ≤ limit) × (left_then ≡ Some [])
    → ReadsNext limit text packets t packet now left_then (Ok false)
next-end limit text reader now left left_then t packets packet b (none, within, end) =
    (told-end (context reader.state) (length b.given - reader.start) b.behind t b.tells none, within, end)

pub next-err : (limit : ℕ) (text : List ℕ) (reader now : PacketReader) (left left_then : Option (List ℕ)) (t : Told)
    (packets : List Seen) (packet other : Packet) (known : Context) (new : Held) (e : FileEnd)
    → (b : TellsOn limit text reader left packets t)
    → now.start ≡ reader.start
    → StepsOn limit text b.given b.behind (context reader.state) (length b.given - reader.start) other known new left_then (Err e)
    → ReadsNext limit text packets t packet now left_then (Err e)
next-err limit text reader now left left_then t packets packet other known new (Refused (place, why)) b same s = (
  told-refused (context reader.state) (length b.given - reader.start) b.behind t why b.tells s.1 s.2
      ∙ ap (λ (k : ℕ). refused_at k why) (sym s.0),
  s.3,
)
next-err limit text reader now left left_then t packets packet other known new Limit b same (longer, inl none) =
    (longer, inl (told-end (context reader.state) (length b.given - reader.start) b.behind t b.tells none))
next-err limit text reader now left left_then t packets packet other known new Limit b same (longer, inr cut) =
    (longer, unfinished b.behind cut b.tells)
  where
    unfinished : (octets : List ℕ) → step (context reader.state) octets ≡ Err fault.Cut
        → IsTold (context reader.state) (length b.given - reader.start) octets t → IsUnfinished t
    unfinished [] cut is =
        inl (told-end (context reader.state) (length b.given - reader.start) [] t is refl)
    unfinished (o ∷ octets) cut is =
        inr (
          length b.given - reader.start,
          told-refused (context reader.state) (length b.given - reader.start)
              (o ∷ octets) t fault.Cut is (λ none. cc none) cut,
        )
next-err limit text reader now left left_then t packets packet other known new ReadFault b same (more, taken, within) = record {
  given = b.given;
  behind = b.behind;
  visible = b.before.visible;
  known = context reader.state;
  read = subst (λ (k : ℕ). HasRead k b.given packets (context reader.state)) (sym same) b.read;
  tells = subst (λ (k : ℕ). IsTold (context reader.state) (length b.given - k) b.behind t) (sym same) b.tells;
  more = more;
  taken = taken;
  within = within;
}
next-err limit text reader now left left_then t packets packet other known new Memory b same s = tt
