-- What is written of a cut is read as this cut.
mod InOrder
mod PutAgain
mod SameCut
mod Parts
mod TablesListed
mod FewDevices
mod FoldersListed
mod LinksListed
mod CutListed
pub mod ReadBack
