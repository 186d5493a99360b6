-- SPDX-License-Identifier: MPL-2.0
pub mod Ends
pub mod Padded
pub mod Opened
pub mod Filling
pub mod Seals
pub mod Accepted
pub mod Unsealed
