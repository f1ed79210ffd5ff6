-- What an answer of `next_line` says besides.
use Rattle.std.proofs.Common.{◌≡◌, ◌≢◌, ◌<◌, ℕ, List, true, Option, refl}
use Rattle.vx_lines.specs.Lines.{Takes, ComesWith, Reading, stays_open}
use Rattle.vx_lines.specs.declared.next_line.NextLine.{NextLine}
use Rattle.vx_lines.specs.declared.next_line.NextLine.TheVariants.{Line, TooLong, End, Failed, Limit}

-- the bytes taken are below the limit while more may be asked for
pub still_below : (most piece : ℕ) (answer : NextLine) (input : List ℕ) (new : Reading) → ComesWith most piece answer input new → stays_open answer ≡ true → new.taken < new.limit
still_below most piece Line input new comes e = comes.below
still_below most piece TooLong input new comes e = comes.below
still_below most piece End input new comes e = cc e
still_below most piece Failed input new comes e = cc e
still_below most piece Limit input new comes e = cc e

-- the same but for the line
pub record SameButLine (a b : Reading) : Type 0 where
  pub limit : b.limit ≡ a.limit
  pub held : b.held ≡ a.held
  pub taken : b.taken ≡ a.taken
  pub ended : b.ended ≡ a.ended

comes_so : (most piece : ℕ) (answer : NextLine) (input : List ℕ) (a b : Reading) → answer ≢ Line → SameButLine a b → ComesWith most piece answer input a → ComesWith most piece answer input b
comes_so most piece Line input a b other same comes = absurd (other refl)
comes_so most piece TooLong input a b other same comes = record {
  front = comes.front;
  behind = comes.behind;
  first = rw same.ended comes.first;
  is = comes.is;
  held = rw same.held comes.held;
  below = rw (same.taken, same.limit) comes.below;
}
comes_so most piece End input a b other same comes = rw (same.ended, same.taken, same.limit) comes
comes_so most piece Failed input a b other same comes = rw (same.ended, same.taken, same.limit) comes
comes_so most piece Limit input a b other same comes = rw (same.ended, same.taken, same.limit) comes

-- an answer that gives no line says nothing of the line
pub takes_so : (most piece : ℕ) (answer : NextLine) (old a b : Reading) (before now : Option (List ℕ)) → answer ≢ Line → SameButLine a b → Takes most piece answer old a before now → Takes most piece answer old b before now
takes_so most piece answer old a b before now other same takes = record {
  bytes = takes.bytes;
  consumed = takes.consumed;
  counted = rw same.taken takes.counted;
  comes = comes_so most piece answer _ a b other same takes.comes;
  unread = takes.unread;
  stays_ended = rw same.ended takes.stays_ended;
  at_end = rw same.ended takes.at_end;
}

-- the same of sizes and a state that are these
pub takes_at : (most m piece p : ℕ) (answer : NextLine) (old o new : Reading) (before now : Option (List ℕ)) → m ≡ most → p ≡ piece → o ≡ old → Takes m p answer o new before now → Takes most piece answer old new before now
takes_at most m piece p answer old o new before now e f g takes = rw (← e, ← f, ← g) takes
