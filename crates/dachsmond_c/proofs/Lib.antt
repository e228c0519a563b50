-- Each exported function has the contract of the function of `dachsmond` that it calls.
pub mod Exported
pub mod ExportedLists
