-- What the table shows, and what it will show after a tick (this profile's own rule).
use Rattle.std.specs.Prelude.{◌-◌, if◌then◌else◌, not, ◌&&◌, List, Option, Some, None, is_some, is_none, option_and_then, unwrap_or, map, nat_lt}
use Rattle.std.specs.List.{filter}
use Rattle.peer_lists.specs.declared.heard.Row.{Row}
use Rattle.peer_lists.specs.declared.remembered.Words.{Words}
use Rattle.peer_lists.specs.declared.remembered.Remembered.{Remembered}
use Rattle.peer_lists.specs.Table.{Table}

-- words a tick later
abbrev pub aged : Words → Words
aged w = record w { left = w.left - 1 }

-- the words, if they have ticks left
abbrev pub kept_words : Words → Option Words
kept_words w = if nat_lt 0 w.left then Some w else None

-- a peer a tick later
abbrev pub aged_peer : Remembered → Remembered
aged_peer p =
    record { last = aged p.last; vouched = option_and_then (λ w. kept_words (aged w)) p.vouched }

-- the words of a peer that is live
abbrev pub live_words : Remembered → Option Words
live_words p = option_and_then (λ w. if w.displaced then None else Some w) p.vouched

-- what is shown of a peer
abbrev pub shown : Remembered → Row
shown p =
    let words = (unwrap_or (live_words p) p.last).told in
    record {
      mi = p.last.told.mi;
      mn = p.last.told.mn;
      sci = words.sci;
      priority = words.priority;
      live = is_some (live_words p);
      potential = is_none (live_words p) && not p.last.displaced;
      uses = words.uses;
    }

-- the rows a tick later: those whose last words are still young
abbrev pub aged_rows : List Remembered → List Remembered
aged_rows ps = filter (λ p. nat_lt 0 p.last.left) (map aged_peer ps)

-- what the table shows
abbrev pub rows_shown : Table → List Row
rows_shown t = map shown t.rows

-- what it will show after the next tick
abbrev pub rows_shown_later : Table → List Row
rows_shown_later t = map shown (aged_rows t.rows)
