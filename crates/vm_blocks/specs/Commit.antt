-- What a commit makes of the file.
use Rattle.std.specs.Prelude.{◌≡◌, ℕ, List, Result, OnErr, OnOk}
use Rattle.block_handles.specs.Store.{Store}
use Rattle.vm_file.specs.declared.commit.How.{How}
use Rattle.vm_file.specs.declared.error.CommitError.{CommitError}
use Rattle.vm_file.specs.Committing.{CommitsFile}
use Rattle.vm_file.specs.Contents.{listed}
use Rattle.vm_file.specs.Device.{Medium}
use Rattle.vm_file.specs.State.{FileState, pair_of}
use Rattle.vm_blocks.specs.Listed.{IsListOf, StoreAfter, directory_of, resident_of}
use Rattle.vm_blocks.specs.View.{VmState}

-- a file lists the directories of the pair that it keeps
pub record Lists {D : Type 0} (image : D → List ℕ) (f : FileState D) : Type 0 where
  pub cur : listed (pair_of image f).cur ≡ f.current
  pub saved : listed (pair_of image f).saved ≡ f.saved

-- file, table and region after a commit of the blocks as they are
pub record CommitsBlocks {D : Type 0} (medium : Medium D)
    (how : How) (v w : VmState D) (old new : Store) (result : Result (Unit {0}) CommitError) : Type 0 where
  pub file : CommitsFile medium how (resident_of old) (directory_of v old) v.file w.file result
  pub lists : OnOk result (IsListOf w w.file.current)
  pub store : OnOk result (StoreAfter how old new)
  pub refused : OnErr result ((w ≡ record v { file = w.file }) × (new ≡ old))
