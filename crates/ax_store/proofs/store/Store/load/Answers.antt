use Rattle.std.proofs.Common.{◌∙◌, sym}
use Rattle.ax_store.specs.Store.{storage_of}
use Rattle.ax_store.proofs.Reading.{load_none}
use Rattle.ax_store.proofs.store.Store.load.Goals as goal
