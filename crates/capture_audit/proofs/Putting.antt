-- A packet is put behind those that wait.
use Rattle.std.proofs.Common.{◌≡◌, ◌∙◌, ◌+◌, ℕ, suc, Bool, false, List, [], ◌∷◌, ◌++◌, length, drop, take, ◌-◌, length-drop, None, refl, sym, ap, subst, arith, length-append}
use Rattle.std.specs.Prelude.{Option, map}
use Rattle.std.proofs.lemmas.List.{get_or_append_left, map-append, take_all}
use Rattle.aes_block.specs.Secrets.{secret_octets}
use Rattle.audit_report.specs.Packets.{begun_part, begun_words}
use Rattle.audit_report.specs.declared.tally.Tally.{Tally}
use Rattle.capture_packets.specs.Packets.{Seen}
use Rattle.capture_packets.specs.declared.packet.PacketHead.{PacketHead}
use Rattle.key_ring.specs.Rings.{Ring}
use Rattle.known_keys.specs.History.{Entry, keys}
use Rattle.packet_verdicts.specs.declared.batch.Trial.{Trial}
use Rattle.packet_verdicts.specs.declared.kind.Kind.{Kind}
use Rattle.packet_verdicts.specs.declared.kind.Kind.TheVariants as kinds
use Rattle.packet_verdicts.specs.declared.kind.Sec.TheVariants as secs
use Rattle.packet_verdicts.specs.Groups.{GroupKeys}
use Rattle.packet_verdicts.specs.Kinds.{Fits, packet_kind}
use Rattle.capture_audit.specs.declared.asks.Asks.{Asks}
use Rattle.capture_audit.specs.inside.Keeping.{IsOfGroup}
use Rattle.packet_verdicts.specs.Trials.{answer}
use Rattle.capture_audit.specs.declared.auditor.Auditor.{Auditor}
use Rattle.capture_audit.specs.declared.batch.Batch.{Batch}
use Rattle.capture_audit.specs.declared.batch.Waiting.{Waiting}
use Rattle.capture_audit.specs.Before.{Unwrapped, entries, number_behind}
use Rattle.capture_audit.specs.inside.Batches.{AreWaiting, IsJudged, IsLonger, IsTriedAt, IsWaiting, StandsAt, answers, distributes}
use Rattle.capture_audit.proofs.Behind.{told-length}

tried-longer : (told : List Entry) (found more : List (Option ℕ)) (packet : Seen) (place : Option ℕ) (k : Kind)
    → IsTriedAt told found packet place k → IsTriedAt told (found ++ more) packet place k
tried-longer told found more packet place (kinds.Sec (secs.Protected tag check)) is =
    let less = is.2 in
    (is.0, is.1, omega (arith, less, length-append found more), get_or_append_left found more None is.0 is.2 ∙ is.3)
tried-longer told found more packet place _ is = tt

module _ (asks : Asks) (ring : Ring) (told : List Entry) where
  waits-longer : (found more : List (Option ℕ)) (n : ℕ) (packets : List Seen) (ws : List Waiting)
      → AreWaiting asks ring told found n packets ws → AreWaiting asks ring told (found ++ more) n packets ws
  waits-longer found more n [] [] are = tt
  waits-longer found more n [] (w ∷ ws) are = absurd are
  waits-longer found more n (p ∷ ps) [] are = absurd are
  waits-longer found more n (p ∷ ps) (w ∷ ws) are = (
    record {
      head = are.0.head;
      kind = are.0.kind;
      quiet = are.0.quiet;
      line = are.0.line;
      tried = tried-longer told found more p w.trial (packet_kind ring.groups p) are.0.tried;
    },
    waits-longer found more (suc n) ps ws are.1,
  )

  pub as-many : (found : List (Option ℕ)) (n : ℕ) (packets : List Seen) (ws : List Waiting)
      → AreWaiting asks ring told found n packets ws → length ws ≡ length packets
  as-many found n [] [] are = refl
  as-many found n [] (w ∷ ws) are = absurd are
  as-many found n (p ∷ ps) [] are = absurd are
  as-many found n (p ∷ ps) (w ∷ ws) are = ap suc (as-many found (suc n) ps ws are.1)

  one-more : (found : List (Option ℕ)) (n m : ℕ) (packets : List Seen) (ws : List Waiting) (p : Seen) (w : Waiting)
      → m ≡ n + length packets → AreWaiting asks ring told found n packets ws
      → IsWaiting asks ring told found m p w
      → AreWaiting asks ring told found n (packets ++ p ∷ []) (ws ++ w ∷ [])
  one-more found n m [] [] p w e are is =
      let same : m ≡ n = omega (arith, e) in
      (subst (λ k. IsWaiting asks ring told found k p w) same is, tt)
  one-more found n m [] (x ∷ ws) p w e are is = absurd are
  one-more found n m (q ∷ ps) [] p w e are is = absurd are
  one-more found n m (q ∷ ps) (x ∷ ws) p w e are is =
      let next : m ≡ suc n + length ps = omega (arith, e) in
      (are.0, one-more found (suc n) m ps ws p w next are.1 is)

  pub put-behind : (found more : List (Option ℕ)) (n m : ℕ) (packets : List Seen) (ws : List Waiting) (p : Seen) (w : Waiting)
      → m ≡ n + length packets → AreWaiting asks ring told found n packets ws
      → IsWaiting asks ring told (found ++ more) m p w
      → AreWaiting asks ring told (found ++ more) n (packets ++ p ∷ []) (ws ++ w ∷ [])
  put-behind found more n m packets ws p w e are is =
      one-more (found ++ more) n m packets ws p w e (waits-longer found more n packets ws are) is

pub put-stands : (asks : Asks) (ring : Ring) (before : List Unwrapped) (waiting : List Seen) (written : List ℕ)
    (one : Seen) (a : Auditor) (b new : Batch) (head : PacketHead) (kind : Kind) (frame : List ℕ) (w : Waiting)
    (number : ℕ)
    → StandsAt asks ring before waiting written a b → IsJudged ring one head kind frame → distributes kind ≡ false
    → new.asks ≡ b.asks → new.text.items ≡ b.text.items → IsLonger b.trials.items new.trials.items
    → new.waiting.items ≡ b.waiting.items ++ w ∷ []
    → w.head ≡ head → w.kind ≡ kind → w.line.items ≡ begun_part b.asks.shows number (begun_words frame kind)
    → number ≡ a.tally.all + length b.waiting.items + 1
    → IsTriedAt (entries ring before) (answers (entries ring before) new.trials.items) one w.trial kind
    → StandsAt asks ring before (waiting ++ one ∷ []) written a new
put-stands asks ring before waiting written one a b new head kind frame w number stands judged quiet same_asks same_text longer same_waiting is_head is_kind is_line is_number tried =
    let told = entries ring before in
    let more = map (answer (map secret_octets (keys told))) longer.0 in
    let found : answers told new.trials.items ≡ answers told b.trials.items ++ more =
    ap (λ (ts : List Trial). answers told ts) longer.1
    ∙ map-append (answer (map secret_octets (keys told))) b.trials.items longer.0 in
    let all = ap (λ (t : Tally). t.all) stands.keeps.tally ∙ told-length ring before in
    let many = as-many asks ring told (answers told b.trials.items) (number_behind before) waiting b.waiting.items stands.waits in
    let n : number ≡ number_behind before + length waiting = omega (arith, is_number, all, many) in
    record {
      keeps = stands.keeps;
      asks_are = same_asks ∙ stands.asks_are;
      waits = subst (λ (ws : List Waiting). AreWaiting asks ring told (answers told new.trials.items) (number_behind before) (waiting ++ one ∷ []) ws) (sym same_waiting)
          (subst (λ (f : List (Option ℕ)). AreWaiting asks ring told f (number_behind before) (waiting ++ one ∷ []) (b.waiting.items ++ w ∷ [])) (sym found)
          (put-behind asks ring told (answers told b.trials.items) more (number_behind before) number waiting b.waiting.items one w n stands.waits
          (record {
            head = is_head ∙ judged.head_is;
            kind = is_kind ∙ judged.kind_is;
            quiet = subst (λ (k : Kind). distributes k ≡ false) judged.kind_is quiet;
            line = is_line ∙ ap (λ (s : Asks). begun_part s.shows number (begun_words frame kind)) stands.asks_are
                ∙ ap (λ (k : Kind). begun_part asks.shows number (begun_words frame k)) judged.kind_is
                ∙ ap (λ (f : List ℕ). begun_part asks.shows number (begun_words f (packet_kind ring.groups one))) judged.frame_is;
            tried = subst (λ (k : Kind). IsTriedAt told (answers told b.trials.items ++ more) one w.trial k) judged.kind_is
                (subst (λ (f : List (Option ℕ)). IsTriedAt told f one w.trial kind) found tried);
          })));
      lines = ap (λ (xs : List ℕ). written ++ xs) same_text ∙ stands.lines;
    }

-- a kind that fits is of a group that is there
pub fits-group : (groups : List GroupKeys) (frame : List ℕ) (k : Kind) → Fits groups frame k → IsOfGroup groups k
fits-group groups frame (kinds.Mka mka) fits = fits
fits-group groups frame _ fits = tt

-- what stands from a place on
pub rest-is : (held octets : List ℕ) (n : ℕ) → held ≡ octets
    → drop n octets ≡ take (length held - n) (drop n held)
rest-is held octets n same =
    ap (λ (xs : List ℕ). drop n xs) (sym same)
    ∙ sym (take_all (length held - n) (drop n held) (omega (arith, length-drop n held)))
