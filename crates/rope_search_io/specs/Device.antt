-- The reader or writer inside a device.
use Rattle.std.specs.Prelude.{◌≡◌}
use Rattle.rope_search_io.specs.declared.device.Device.{Device}

-- the reader or writer inside a device
abbrev pub under : {D : Type 0} → Device D → D
under d = d.inner

-- all counts are 0
pub record IsUncounted {D : Type 0} (device : Device D) : Type 0 where
  pub reads : device.reads ≡ 0
  pub narrow : device.narrow ≡ 0
  pub ends : device.ends ≡ 0
  pub writes : device.writes ≡ 0
  pub flushes : device.flushes ≡ 0
  pub unflushed : device.unflushed ≡ 0
  pub failures : device.failures ≡ 0
