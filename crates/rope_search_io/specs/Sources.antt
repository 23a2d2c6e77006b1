-- The counts of a source and a sink.
use Rattle.std.specs.Prelude.{ℕ, zero, suc, ◌&&◌, List, length, nat_lt, ◌==◌, if◌then◌else◌, Option, None, Some, Result, Ok, Err, is_ok}

-- a source: the bytes that it has left, if they are known, and the number of calls, of calls with
-- little room, of failures, and of calls that reported the end
pub record SourceState : Type 0 where
  pub left : Option (List ℕ)
  pub reads : ℕ
  pub narrow : ℕ
  pub failures : ℕ
  pub ends : ℕ

-- a sink: the bytes that it has, if they are known, and the number of calls of `write` and of
-- `flush`, of failures, and of successful writes that aren't flushed yet
pub record SinkState : Type 0 where
  pub held : Option (List ℕ)
  pub writes : ℕ
  pub flushes : ℕ
  pub failures : ℕ
  pub unflushed : ℕ

-- 1 if a call returned an error, else 0
abbrev pub failures_in : {T E : Type 0} → Result T E → ℕ
failures_in r = if is_ok r then 0 else 1

-- 1 if a call returned no error, else 0
abbrev pub successes_in : {T E : Type 0} → Result T E → ℕ
successes_in r = if is_ok r then 1 else 0

-- the unflushed writes after a call of `flush`: none, or all of them if it failed
abbrev pub left_unflushed : {T E : Type 0} → Result T E → ℕ → ℕ
left_unflushed r writes = if is_ok r then 0 else writes

-- 1 if a read has room for fewer than 4,096 bytes, else 0
abbrev pub narrow_in : List ℕ → ℕ
narrow_in room = if nat_lt (length room) 4096 then 1 else 0

-- 1 if a read gives no bytes though there is room, which reports the end, else 0
abbrev pub ends_in : {E : Type 0} → Result ℕ E → List ℕ → ℕ
ends_in (Ok n) room = if n == 0 && nat_lt 0 (length room) then 1 else 0
ends_in (Err e) room = 0

-- the fuse after a call: the number of the call that fails, of those to come, from 1
abbrev pub burnt : Option ℕ → Option ℕ
burnt None = None
burnt (Some zero) = Some zero
burnt (Some (suc zero)) = None
burnt (Some (suc (suc n))) = Some (suc n)

-- a source in memory: the bytes that it has left, the most that a call gives, the call that fails,
-- and its counts
pub record Reading : Type 0 where
  pub left : List ℕ
  pub step : ℕ
  pub fuse : Option ℕ
  pub reads : ℕ
  pub narrow : ℕ
  pub failures : ℕ
  pub ends : ℕ

-- a sink in memory: the bytes that it has, its room, the most that a call takes, the call that
-- fails, and its counts
pub record Writing : Type 0 where
  pub held : List ℕ
  pub room : ℕ
  pub step : ℕ
  pub fuse : Option ℕ
  pub writes : ℕ
  pub flushes : ℕ
  pub failures : ℕ
  pub unflushed : ℕ
