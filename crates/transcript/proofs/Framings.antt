-- What the lines of frames say is of frames.
use Rattle.std.proofs.Common.{◌≡◌, ℕ, Bool, true, false, cond, List, ◌∷◌, Option, Some, None, Result, Ok, Err, sym, subst}
use Rattle.std.specs.Prelude.{IfSome, IfErr, option_map, codes}
use Rattle.std.specs.List.{slice_split}
use Rattle.lan_core.specs.declared.fact.Fact.{Fact}
use Rattle.lan_core.specs.declared.fact.Fact.TheVariants.{Arrived, Framed}
use Rattle.rx_slots.specs.declared.arrival.Arrival.{Arrival}
use Rattle.rx_slots.specs.declared.arrival.Arrival.TheVariants.{Accepted, Malformed, Own, Missed, BadCheck, Late}
use Rattle.trace_text.specs.Words.{is_word}
use Rattle.transcript.specs.declared.fault.FactError.{FactError}
use Rattle.transcript.specs.declared.fault.FactError.TheVariants.{Unread, Memory}
use Rattle.transcript.specs.Rendering.{IsOfFrame}
use Rattle.transcript.specs.inside.Reading.{station, sec, Tree, says, text, part, octets, nothing, along, and_then, unless, parted, taken, last_octets, number_of, station_of, said_by, tags, an_of, fact_tree, frame_tree, data_tree, plain_tree, arrival_tree, accepted_tree, malformed_tree, missed_tree, late_tree, refused_tree, is_space, fact_in}
use Rattle.transcript.specs.inside.Tables.{named}
use Rattle.transcript.specs.inside.Taking.{IsForFrame}
use Rattle.transcript.specs.Words.{frame_text, secs}

abbrev Frames : Option Fact → Type 0
Frames o = IfSome o IsOfFrame

follows : {A : Type 0} (o : Option A) (f : A → Option Fact) → ((x : A) → Frames (f x))
    → Frames (and_then o f)
follows None f all = tt
follows (Some x) f all = all x

mapped : {A : Type 0} (o : Option A) (f : A → Fact) → ((x : A) → IsOfFrame (f x))
    → Frames (option_map f o)
mapped None f all = tt
mapped (Some x) f all = all x

at-end : {B : Type 0} (o : Option B) (fact : Fact) → IsOfFrame fact → Frames (unless o fact)
at-end None fact is = is
at-end (Some x) fact is = tt

either : (b : Bool) (x y : Option Fact) → Frames x → Frames y → Frames (cond b x y)
either true x y p q = p
either false x y p q = q

branches : (names : List (List ℕ)) (letters : List ℕ) (next other : Tree)
    → ((words : List (List ℕ)) → Frames (along names next words))
    → ((words : List (List ℕ)) → Frames (along names other words)) → (words : List (List ℕ))
    → Frames (along names (text letters next other) words)
branches names letters next other p q words =
    follows (parted words)
    (λ x. cond (is_word x.0 letters) (along names next x.1) (along names other words))
    (λ x. either (is_word x.0 letters) (along names next x.1) (along names other words) (p x.1)
    (q words))

frame-frames : (names : List (List ℕ)) (words : List (List ℕ))
    → Frames (along names frame_tree words)
frame-frames names words =
    follows (taken (number_of 32) words)
    (λ k. along names (part station (λ s. part sec (λ protected. octets (λ xs. Framed k.0 s protected xs)))) k.1)
    (λ k. follows (taken (station_of names) k.1)
    (λ s. along names (part sec (λ protected. octets (λ xs. Framed k.0 s.0 protected xs))) s.1)
    (λ s. follows (taken (named frame_text secs) s.1)
    (λ x. along names (octets (λ xs. Framed k.0 s.0 x.0 xs)) x.1)
    (λ x. mapped (last_octets x.1) (λ xs. Framed k.0 s.0 x.0 xs) (λ xs. tt {0}))))

module _ (names : List (List ℕ)) (k s : ℕ) where
  abbrev came : Arrival → Fact
  came arrival = Arrived k s arrival

  abbrev late_part : Tree
  late_part = text (codes "late") (late_tree came) nothing

  abbrev check_part : Tree
  check_part = text (codes "badcheck") (says (came BadCheck)) late_part

  abbrev missed_part : Tree
  missed_part = text (codes "missed") (missed_tree came) check_part

  abbrev own_part : Tree
  own_part = text (codes "own") (says (came Own)) missed_part

  late-frames : (words : List (List ℕ)) → Frames (along names (late_tree came) words)
  late-frames words = follows (taken (number_of 64) words)
      (λ x. along names (says (came (Late x.0))) x.1)
      (λ x. at-end (parted x.1) (came (Late x.0)) (tt {0}))

  missed-frames : (words : List (List ℕ)) → Frames (along names (missed_tree came) words)
  missed-frames words = follows (taken an_of words)
      (λ x. along names (says (came (Missed x.0))) x.1)
      (λ x. at-end (parted x.1) (came (Missed x.0)) (tt {0}))

  malformed-frames : (words : List (List ℕ)) → Frames (along names (malformed_tree came) words)
  malformed-frames words = follows (taken (said_by tags) words)
      (λ x. along names (says (came (Malformed x.0))) x.1)
      (λ x. at-end (parted x.1) (came (Malformed x.0)) (tt {0}))

  accepted-frames : (words : List (List ℕ)) → Frames (along names (accepted_tree came) words)
  accepted-frames words = follows (taken (number_of 32) words)
      (λ x. along names (octets (λ body. came (Accepted x.0 body))) x.1)
      (λ x. mapped (last_octets x.1) (λ body. came (Accepted x.0 body)) (λ body. tt {0}))

  refused-frames : (words : List (List ℕ)) → Frames (along names (refused_tree came) words)
  refused-frames =
      branches names (codes "malformed") (malformed_tree came) own_part malformed-frames
      (branches names (codes "own") (says (came Own)) missed_part
      (λ words. at-end (parted words) (came Own) (tt {0}))
      (branches names (codes "missed") (missed_tree came) check_part missed-frames
      (branches names (codes "badcheck") (says (came BadCheck)) late_part
      (λ words. at-end (parted words) (came BadCheck) (tt {0}))
      (branches names (codes "late") (late_tree came) nothing late-frames (λ words. tt {0})))))

  arrival-frames : (words : List (List ℕ)) → Frames (along names (arrival_tree came) words)
  arrival-frames =
      branches names (codes "accepted") (accepted_tree came) (refused_tree came) accepted-frames
      refused-frames

data-frames : (names : List (List ℕ)) (words : List (List ℕ)) → Frames (along names data_tree words)
data-frames names words =
    follows (taken (number_of 32) words)
    (λ k. along names (part station (λ s. arrival_tree (λ arrival. Arrived k.0 s arrival))) k.1)
    (λ k. follows (taken (station_of names) k.1)
    (λ s. along names (arrival_tree (λ arrival. Arrived k.0 s.0 arrival)) s.1)
    (λ s. arrival-frames names k.0 s.0 s.1))

if-err : (r : Result Fact FactError) (o : Option Fact) → Frames o
    → IfErr r (λ fault. IsForFrame fault o)
if-err (Ok fact) o frames = tt
if-err (Err Unread) o frames = tt
if-err (Err Memory) o frames = frames

data_line : (names : List (List ℕ)) (first : List ℕ) (words : List (List ℕ))
    → is_word first (codes "data") ≡ true → Frames (along names fact_tree (first ∷ words))
data_line names first words is =
    either (is_word first (codes "frame")) (along names frame_tree words)
    (along names (text (codes "data") data_tree plain_tree) (first ∷ words))
    (frame-frames names words)
    (subst (λ b. Frames (cond b (along names data_tree words)
    (along names plain_tree (first ∷ words)))) (sym is) (data-frames names words))

-- memory is wanting for the line of a frame
pub for-data : (names : List (List ℕ)) (line first : List ℕ) (words : List (List ℕ))
    (r : Result Fact FactError) → slice_split is_space line ≡ first ∷ words
    → is_word first (codes "data") ≡ true → IfErr r (λ fault. IsForFrame fault (fact_in names line))
for-data names line first words r split is = if-err r (fact_in names line)
    (subst (λ ws. Frames (along names fact_tree ws)) (sym split) (data_line names first words is))
