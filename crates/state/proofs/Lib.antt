pub mod Update
pub mod TaskUpdate
pub mod Fresh
pub mod CodeStores
