mod Examples
pub mod Greatest
pub mod Places
pub mod SakNumbers
pub mod Numbering
pub mod ListPuts
pub mod Stands
pub mod FirstTold
pub mod Givens
pub mod GiveStands
pub mod NamePuts
pub mod KeysOfFronts
pub mod Ties
pub mod SaidMore
pub mod Missing
pub mod MissingMore
pub mod Public
