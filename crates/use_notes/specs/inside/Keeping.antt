-- What is kept, one frame after the other.
use Rattle.std.specs.Prelude.{ℕ, ◌+◌, ◌-◌, ◌==◌, ◌&&◌, Bool, true, not, nat_lt, min, max, if◌then◌else◌, Option}
use Rattle.use_notes.specs.declared.frame.RightFrame.{RightFrame}
use Rattle.use_notes.specs.declared.frame.First.{First}
use Rattle.use_notes.specs.declared.novelty.Novelty.{Novelty}
use Rattle.use_notes.specs.declared.counts.Counts.{Counts}
use Rattle.use_notes.specs.Frames.{is_new, is_repeated, is_reused, is_fresh}
use Rattle.use_notes.specs.Uses.{delay}

abbrev pub more_of : ℕ → Bool → ℕ
more_of count counted = min (count + (if counted then 1 else 0)) 4294967295

abbrev pub lower_of : ℕ → ℕ → ℕ → ℕ
lower_of frames low pn = if frames == 0 then pn else min pn low

abbrev pub lag_behind : ℕ → ℕ → Novelty → ℕ
lag_behind high pn novelty = if is_new novelty && nat_lt pn high then high + 1 - pn else 0

abbrev pub counts_after : Counts → Novelty → Option First → RightFrame → ℕ → Counts
counts_after c novelty alike e lag = record {
  frames = more_of c.frames true;
  low = lower_of c.frames c.low e.pn;
  high = max e.pn c.high;
  first = if c.frames == 0 then e.packet else c.first;
  last = if is_fresh novelty then e.packet else c.last;
  repeated = more_of c.repeated (is_repeated novelty);
  longest = max (delay alike e) c.longest;
  reused = more_of c.reused (is_reused novelty);
  fell = more_of c.fell (not (lag == 0));
  window = max lag c.window;
  clear = more_of c.clear (is_fresh novelty && not e.confidential);
}

abbrev pub counts_with : Counts → Novelty → Option First → RightFrame → Counts
counts_with c novelty alike e = counts_after c novelty alike e (lag_behind c.high e.pn novelty)
