-- SPDX-License-Identifier: MPL-2.0
pub mod Text
pub mod Stream
pub mod Listing
pub mod Inputs
pub mod Examples
